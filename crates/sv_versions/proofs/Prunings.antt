-- A pruning that looks at the listed objects alone.
use Rattle.std.proofs.Common.{◌≡◌, ℕ, ◌+◌, ◌<◌, ◌≤◌, ◌⊎◌, inl, inr, ⊎_elim, Bool, true, false, cond, not, ◌||◌, ◌&&◌, eqb, ltb, leb, List, [], ◌∷◌, ◌++◌, length, get_or, set, replicate, refl, sym, ap, ◌∙◌, subst, arith}
use Rattle.std.specs.List.{filter, list_any, count_by}
use Rattle.std.proofs.lemmas.Bool.{cond-true, cond-false, lt-ltb, le-ltb, or_left, or_right, or_from, or_parts, or_cases, and_left, cases_Bool, cases_eq, cases_lt, eqb-true, not-true, not_from_false, both_ways}
use Rattle.std.proofs.lemmas.List.{get_or-set_same, get_or-set_other, length-set, length-map, get_or-replicate, length-replicate}
use Rattle.std.proofs.lemmas.List.Elements.{filter_passes}
use Rattle.std.proofs.lemmas.List.Folds.{list_any-append}
use Rattle.std.proofs.lemmas.List.Sums.{count_by-le-length}
use Rattle.sv_world.specs.declared.world.ObjectId.{ObjectId}
use Rattle.sv_versions.specs.declared.history.Version.{Version}
use Rattle.sv_versions.specs.Held.{Held, is_outdated, pruned, count_up_to}
use Rattle.sv_versions.specs.Histories.{as_held, tagged, flat, is_listed, AreListed, ArePruned}
use Rattle.sv_versions.proofs.Lists.{filter_back}
use Rattle.sv_versions.proofs.Rows.{own}
use Rattle.sv_versions.proofs.Flats.{of_flat, of_flat_past, prune_flat}

-- a test that no element of a part meets, none of a smaller part does
none_in_part : (t p q : Held → Bool) (hs : List Held) → list_any t (filter p hs) ≡ false → list_any t (filter p (filter q hs)) ≡ false
none_in_part t p q [] e = refl
none_in_part t p q (h ∷ hs) e = go (p h) (q h) refl e (none_in_part t p q hs)
  where
    go : (a b : Bool) → p h ≡ a → list_any t (cond a (h ∷ filter p hs) (filter p hs)) ≡ false → (list_any t (filter p hs) ≡ false → list_any t (filter p (filter q hs)) ≡ false) → list_any t (filter p (cond b (h ∷ filter q hs) (filter q hs))) ≡ false
    go true true is e rest =
        ap (λ xs. list_any t xs) (cond-true (p h) _ _ is)
        ∙ or_from (t h) _ (or_parts (t h) _ e).0 (rest (or_parts (t h) _ e).1)
    go false true is e rest = ap (λ xs. list_any t xs) (cond-false (p h) _ _ is) ∙ rest e
    go true false is e rest = rest (or_parts (t h) _ e).1
    go false false is e rest = rest e

pub pruned_twice : (commit : ℕ) (hs : List Held) → pruned commit (pruned commit hs) ≡ pruned commit hs
pruned_twice commit hs =
    filter_back (λ h. not (is_outdated commit (pruned commit hs) h)) (pruned commit hs) 0
    (λ k d l n. absurd (omega arith))
    (λ k d l n. let h = get_or (pruned commit hs) k d in
    let kept : is_outdated commit hs h ≡ false = not-true _ (filter_passes (λ g. not (is_outdated commit hs g)) hs k d n) in
    not_from_false _ (none_in_part (λ g. ltb h.pos g.pos && leb g.pos commit) (λ g. eqb g.object h.object) (λ g. not (is_outdated commit hs g)) hs kept))

-- one version alone stays
pub pruned_alone : (commit x : ℕ) (vs : List Version) → length vs ≤ 1 → pruned commit (tagged x vs) ≡ tagged x vs
pruned_alone commit x [] h = refl
pruned_alone commit x (v ∷ []) h =
    cond-true (not (is_outdated commit (tagged x (v ∷ [])) (as_held x v))) _ _
    (not_from_false _ (ap (λ hs. list_any (λ k. ltb v.pos k.pos && leb k.pos commit) hs) (own x (v ∷ []))
    ∙ or_from _ _ (and_left _ _ (le-ltb v.pos v.pos (omega arith))) refl))
pruned_alone commit x (v ∷ (w ∷ vs)) h = absurd (omega arith)

few_alone : (commit x : ℕ) (vs : List Version) → length vs ≤ 1 → count_up_to (tagged x vs) x commit ≤ 1
few_alone commit x vs h =
    omega (arith, ap (λ hs. count_by (λ g. leb g.pos commit) hs) (own x vs), count_by-le-length (λ g. leb g.pos commit) (tagged x vs), length-map vs (as_held x))

pub pruned_none : (commit : ℕ) (rows : List (List Version)) → ArePruned commit [] rows rows
pruned_none commit rows = record {
  long = refl;
  same = λ k x h. refl;
  shorter = λ k h. omega arith;
  done = λ k x h e. absurd (both_ways false refl e);
  few = λ k x h e. absurd (both_ways false refl e);
}

listed_then : (k : ℕ) (os : List ObjectId) (o : ObjectId) → is_listed k (os ++ o ∷ []) ≡ true → (is_listed k os ≡ true) ⊎ (o.0 ≡ k)
listed_then k os o e = go (or_cases _ _ (sym (list_any-append (λ (p : ObjectId). eqb p.0 k) os (o ∷ [])) ∙ e))
  where
    go : (is_listed k os ≡ true) ⊎ ((eqb o.0 k || false) ≡ true) → (is_listed k os ≡ true) ⊎ (o.0 ≡ k)
    go (inl a) = inl a
    go (inr b) = at (or_cases _ _ b)
      where
        at : (eqb o.0 k ≡ true) ⊎ (false ≡ true) → (is_listed k os ≡ true) ⊎ (o.0 ≡ k)
        at (inl c) = inr (eqb-true o.0 k c)
        at (inr d) = absurd (both_ways false refl d)

pub pruned_skip : (commit : ℕ) (os : List ObjectId) (o : ObjectId) (old new : List (List Version)) → ArePruned commit os old new → length new ≤ o.0 → ArePruned commit (os ++ o ∷ []) old new
pruned_skip commit os o old new p past = record {
  long = p.long;
  same = p.same;
  shorter = p.shorter;
  done = λ k x h e. ⊎_elim (λ a. p.done k x h a) (λ b. absurd (omega (arith, p.long))) (listed_then k os o e);
  few = λ k x h e. ⊎_elim (λ a. p.few k x h a) (λ b. absurd (omega (arith, p.long))) (listed_then k os o e);
}

module _ (commit k0 : ℕ) (os : List ObjectId) (o : ObjectId) (old new : List (List Version)) (row : List Version) (p : ArePruned commit os old new) (here : o.0 ≡ k0) (l : k0 < length new) (kept : (x : ℕ) → tagged x row ≡ pruned commit (tagged x (get_or new k0 []))) where
  same_here : (x : ℕ) → pruned commit (tagged x row) ≡ pruned commit (tagged x (get_or old k0 []))
  same_here x = ap (λ hs. pruned commit hs) (kept x) ∙ pruned_twice commit (tagged x (get_or new k0 [])) ∙ p.same k0 x (omega (arith, p.long))

  read_here : (k : ℕ) → k ≡ k0 → get_or (set new k0 row) k [] ≡ row
  read_here k e = ap (λ j. get_or (set new k0 row) j []) e ∙ get_or-set_same new k0 row [] l

  read_other : (k : ℕ) → (k ≡ k0 → ⊥) → get_or (set new k0 row) k [] ≡ get_or new k []
  read_other k ne = get_or-set_other new k0 k row [] ne

  more_same : (k x : ℕ) → k < length old → (k ≡ k0) ⊎ (k ≡ k0 → ⊥) → pruned commit (tagged x (get_or (set new k0 row) k [])) ≡ pruned commit (tagged x (get_or old k []))
  more_same k x h (inl e) =
      ap (λ (r : List Version). pruned commit (tagged x r)) (read_here k e) ∙ same_here x
      ∙ ap (λ j. pruned commit (tagged x (get_or old j []))) (sym e)
  more_same k x h (inr ne) = ap (λ (r : List Version). pruned commit (tagged x r)) (read_other k ne) ∙ p.same k x h

  more_shorter : (k : ℕ) → k < length old → length row ≤ length (get_or new k0 []) → (k ≡ k0) ⊎ (k ≡ k0 → ⊥) → length (get_or (set new k0 row) k []) ≤ length (get_or old k [])
  more_shorter k h s (inl e) =
      omega (arith, ap (λ (r : List Version). length r) (read_here k e), p.shorter k0 (omega (arith, p.long)), ap (λ j. length (get_or old j [])) e)
  more_shorter k h s (inr ne) = omega (arith, ap (λ (r : List Version). length r) (read_other k ne), p.shorter k h)

  more_done : (k x : ℕ) → k < length old → (is_listed k os ≡ true) ⊎ (o.0 ≡ k) → (k ≡ k0) ⊎ (k ≡ k0 → ⊥) → tagged x (get_or (set new k0 row) k []) ≡ pruned commit (tagged x (get_or old k []))
  more_done k x h which (inl e) =
      ap (λ (r : List Version). tagged x r) (read_here k e) ∙ kept x ∙ p.same k0 x (omega (arith, p.long))
      ∙ ap (λ j. pruned commit (tagged x (get_or old j []))) (sym e)
  more_done k x h (inl was) (inr ne) = ap (λ (r : List Version). tagged x r) (read_other k ne) ∙ p.done k x h was
  more_done k x h (inr now) (inr ne) = absurd (ne (sym now ∙ here))

  more_few : (k x : ℕ) → k < length old → count_up_to (tagged x row) x commit ≤ 1 → (is_listed k os ≡ true) ⊎ (o.0 ≡ k) → (k ≡ k0) ⊎ (k ≡ k0 → ⊥) → count_up_to (tagged x (get_or (set new k0 row) k [])) x commit ≤ 1
  more_few k x h few which (inl e) = subst (λ (r : List Version). count_up_to (tagged x r) x commit ≤ 1) (sym (read_here k e)) few
  more_few k x h few (inl was) (inr ne) = subst (λ (r : List Version). count_up_to (tagged x r) x commit ≤ 1) (sym (read_other k ne)) (p.few k x h was)
  more_few k x h few (inr now) (inr ne) = absurd (ne (sym now ∙ here))

  pub pruned_more : ((x : ℕ) → count_up_to (tagged x row) x commit ≤ 1) → length row ≤ length (get_or new k0 []) → ArePruned commit (os ++ o ∷ []) old (set new k0 row)
  pruned_more few shorter = record {
    long = length-set new k0 row ∙ p.long;
    same = λ k x h. more_same k x h (cases_eq k k0);
    shorter = λ k h. more_shorter k h shorter (cases_eq k k0);
    done = λ k x h e. more_done k x h (listed_then k os o e) (cases_eq k k0);
    few = λ k x h e. more_few k x h (few x) (listed_then k os o e) (cases_eq k k0);
  }

listed_kept : (x : ℕ) (t : ℕ → Bool) (os : List ObjectId) → t x ≡ true → is_listed x os ≡ true → is_listed x (filter (λ o. t o.0) os) ≡ true
listed_kept x t [] e h = absurd (both_ways false refl h)
listed_kept x t (o ∷ os) e h = go (t o.0) refl (or_cases _ _ h) (listed_kept x t os e)
  where
    go : (b : Bool) → t o.0 ≡ b → (eqb o.0 x ≡ true) ⊎ (is_listed x os ≡ true) → (is_listed x os ≡ true → is_listed x (filter (λ o. t o.0) os) ≡ true) → is_listed x (cond b (o ∷ filter (λ o. t o.0) os) (filter (λ o. t o.0) os)) ≡ true
    go true is (inl here) rest = or_left _ _ here
    go true is (inr there) rest = or_right _ _ (rest there)
    go false is (inl here) rest = absurd (both_ways _ is (ap t (eqb-true o.0 x here) ∙ e))
    go false is (inr there) rest = rest there

module _ (commit : ℕ) (crowded : List ObjectId) (rows done : List (List Version)) (a : AreListed crowded rows) (p : ArePruned commit crowded rows done) where
  alone : (k : ℕ) → k < length rows → is_listed k crowded ≡ false → length (get_or rows k []) ≤ 1
  alone k h e = let not_more : 1 < length (get_or rows k []) → ⊥ = λ m. both_ways _ e (a.listed k h m) in omega arith

  each_pruned : (k x : ℕ) → k < length rows → (is_listed k crowded ≡ true) ⊎ (is_listed k crowded ≡ false) → tagged x (get_or done k []) ≡ pruned commit (tagged x (get_or rows k []))
  each_pruned k x h (inl e) = p.done k x h e
  each_pruned k x h (inr e) =
      sym (pruned_alone commit x (get_or done k []) (omega (arith, alone k h e, p.shorter k h))) ∙ p.same k x h

  each_few : (k x : ℕ) → k < length rows → (is_listed k crowded ≡ true) ⊎ (is_listed k crowded ≡ false) → count_up_to (tagged x (get_or done k [])) x commit ≤ 1
  each_few k x h (inl e) = p.few k x h e
  each_few k x h (inr e) = few_alone commit x (get_or done k []) (omega (arith, alone k h e, p.shorter k h))

  pub flat_pruned : flat done ≡ pruned commit (flat rows)
  flat_pruned = prune_flat commit rows done p.long (λ k h. each_pruned k k h (cases_Bool (is_listed k crowded)))

  few_cases : (x : ℕ) → (x < length rows) ⊎ (length rows ≤ x) → count_up_to (flat done) x commit ≤ 1
  few_cases x (inl h) =
      subst (λ hs. count_by (λ g. leb g.pos commit) hs ≤ 1) (sym (of_flat x done (omega (arith, p.long)))) (each_few x x h (cases_Bool (is_listed x crowded)))
  few_cases x (inr h) =
      subst (λ hs. count_by (λ g. leb g.pos commit) hs ≤ 1) (sym (of_flat_past x done (omega (arith, p.long)))) (omega arith)

  pub flat_few : (x : ℕ) → count_up_to (flat done) x commit ≤ 1
  flat_few x = few_cases x (cases_lt x (length rows))

  pub still_listed : AreListed (filter (λ o. ltb 1 (length (get_or done o.0 []))) crowded) done
  still_listed = record {
    listed = λ x h m. listed_kept x (λ k. ltb 1 (length (get_or done k []))) crowded (lt-ltb 1 _ m) (a.listed x (omega (arith, p.long)) (omega (arith, p.shorter x (omega (arith, p.long)))));
  }

-- The objects that have more than one version stay listed where the others go.
pub crowded_listed : (crowded : List ObjectId) (rows : List (List Version)) → AreListed crowded rows → AreListed (filter (λ o. ltb 1 (length (get_or rows o.0 []))) crowded) rows
crowded_listed crowded rows a = record {
  listed = λ x h m. listed_kept x (λ k. ltb 1 (length (get_or rows k []))) crowded (lt-ltb 1 _ m) (a.listed x h m);
}

pub new_listed : (n : ℕ) → AreListed [] (replicate n [])
new_listed n = record {
  listed = λ x h m. let none : get_or {A = List Version} (replicate n []) x [] ≡ [] = get_or-replicate n x [] [] (omega (arith, length-replicate {A = List Version} n [])) in
      absurd (omega (arith, ap (λ (r : List Version). length r) none));
}

pub more_listed : (crowded after : List ObjectId) (rows : List (List Version)) → AreListed crowded rows → ((x : ℕ) → is_listed x crowded ≡ true → is_listed x after ≡ true) → AreListed after rows
more_listed crowded after rows a kept = record { listed = λ x h m. kept x (a.listed x h m) }

put_cases : (after : List ObjectId) (rows : List (List Version)) (x k : ℕ) (row : List Version) → AreListed after rows → x < length rows → (length (get_or rows x []) ≡ 1 → is_listed x after ≡ true) → length row ≤ length (get_or rows x []) + 1 → k < length rows → 1 < length (get_or (set rows x row) k []) → (k ≡ x) ⊎ (k ≡ x → ⊥) → is_listed k after ≡ true
put_cases after rows x k row a h one longer l m (inl e) =
    let read : get_or (set rows x row) k [] ≡ row = ap (λ j. get_or (set rows x row) j []) e ∙ get_or-set_same rows x row [] h in
    ap (λ j. is_listed j after) e ∙ go (cases_lt 1 (length (get_or rows x []))) (omega (arith, ap (λ (r : List Version). length r) read))
  where
    go : (1 < length (get_or rows x [])) ⊎ (length (get_or rows x []) ≤ 1) → 1 < length row → is_listed x after ≡ true
    go (inl more) n = a.listed x h more
    go (inr few) n = one (omega arith)
put_cases after rows x k row a h one longer l m (inr ne) =
    a.listed k l (omega (arith, ap (λ (r : List Version). length r) (get_or-set_other rows x k row [] ne)))

pub put_listed : (after : List ObjectId) (rows : List (List Version)) (x : ℕ) (row : List Version) → AreListed after rows → x < length rows → (length (get_or rows x []) ≡ 1 → is_listed x after ≡ true) → length row ≤ length (get_or rows x []) + 1 → AreListed after (set rows x row)
put_listed after rows x row a h one longer = record {
  listed = λ k l m. put_cases after rows x k row a h one longer (omega (arith, length-set rows x row)) m (cases_eq k x);
}

shorter_cases : (crowded : List ObjectId) (rows : List (List Version)) (x k : ℕ) (row : List Version) → AreListed crowded rows → x < length rows → length row ≤ length (get_or rows x []) → k < length rows → 1 < length (get_or (set rows x row) k []) → (k ≡ x) ⊎ (k ≡ x → ⊥) → is_listed k crowded ≡ true
shorter_cases crowded rows x k row a h shorter l m (inl e) =
    let read : get_or (set rows x row) k [] ≡ row = ap (λ j. get_or (set rows x row) j []) e ∙ get_or-set_same rows x row [] h in
    let more : 1 < length (get_or rows x []) = omega (arith, ap (λ (r : List Version). length r) read) in
    ap (λ j. is_listed j crowded) e ∙ a.listed x h more
shorter_cases crowded rows x k row a h shorter l m (inr ne) =
    a.listed k l (omega (arith, ap (λ (r : List Version). length r) (get_or-set_other rows x k row [] ne)))

-- fewer versions of one object: the same objects are listed
pub shorter_listed : (crowded : List ObjectId) (rows : List (List Version)) (x : ℕ) (row : List Version) → AreListed crowded rows → x < length rows → length row ≤ length (get_or rows x []) → AreListed crowded (set rows x row)
shorter_listed crowded rows x row a h shorter = record {
  listed = λ k l m. shorter_cases crowded rows x k row a h shorter (omega (arith, length-set rows x row)) m (cases_eq k x);
}
