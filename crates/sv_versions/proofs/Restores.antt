-- A put taken back: what stood at its position before stands there again.
use Rattle.std.proofs.Common.{◌≡◌, ℕ, ℤ, zero, suc, ◌+◌, ◌-◌, ◌<◌, ◌≤◌, ◌⊎◌, inl, inr, Bool, true, false, cond, ◌&&◌, eqb, List, [], ◌∷◌, ◌++◌, length, get_or, set, take, drop, Option, Some, None, refl, sym, ap, subst, ◌∙◌, arith}
use Rattle.std.specs.List.{flat_map, insert, remove}
use Rattle.std.proofs.lemmas.Bool.{cond-true, cond-false, eq-eqb, ne_eqb, and_left, cases_lt, cases_eq}
use Rattle.std.proofs.lemmas.List.{length-append, map-append, get_or-take, get_or-drop, length-take-le, length-drop, take-append-drop, set-get_or}
use Rattle.std.proofs.Math.Seq.{split_at}
use Rattle.std.proofs.lemmas.Grind.{flat_map-append}
use Rattle.sv_versions.specs.declared.history.Version.{Version}
use Rattle.sv_versions.specs.Held.{Held, stood_at, restored}
use Rattle.sv_versions.specs.Histories.{AscendsFrom, IsCountUpTo, EndsAt, EndsApart, as_held, tagged, flat_from, flat, stood, row_restored}
use Rattle.sv_versions.proofs.Prunes.{ascends_lower}
use Rattle.sv_versions.proofs.Puts.{Parts, parts_apart, parts_equal, replaced}

-- no version stands at the position: each stays
pub unchanged : (pos : ℕ) (was : Option (List ℤ)) (vs : List Version) → ((k : ℕ) (d : Version) → k < length vs → (get_or vs k d).pos ≡ pos → ⊥) → row_restored pos was vs ≡ vs
unchanged pos was [] ne = refl
unchanged pos was (v ∷ vs) ne =
    ap (λ (ws : List Version). ws ++ row_restored pos was vs) (cond-false (eqb v.pos pos) _ _ (ne_eqb v.pos pos (ne 0 v (omega arith))))
    ∙ ap (λ ws. v ∷ ws) (unchanged pos was vs (λ k d l. ne (suc k) d (omega arith)))

-- the one at the position becomes what stood there
pub at_place : (pos i j : ℕ) (was : Option (List ℤ)) (vs : List Version) (w : Version) → w.pos ≡ pos → Parts pos vs i j → row_restored pos was (take i vs ++ w ∷ drop j vs) ≡ take i vs ++ (stood pos was ++ drop j vs)
at_place pos i j was vs w e p =
    let f : Version → List Version = λ v. cond (eqb v.pos pos) (stood pos was) (v ∷ []) in
    let front : flat_map f (take i vs) ≡ take i vs =
    unchanged pos was (take i vs) (λ k d l e. let low : k < i = omega (arith, length-take-le i vs p.within) in
    omega (arith, p.before k d low (omega (arith, p.within)), ap (λ (v : Version). v.pos) (get_or-take i vs k d low), e)) in
    let back : flat_map f (drop j vs) ≡ drop j vs =
    unchanged pos was (drop j vs) (λ k d l e. omega (arith, length-drop j vs, p.behind (j + k) d (omega arith) (omega (arith, length-drop j vs)), ap (λ (v : Version). v.pos) (get_or-drop j vs k d), e)) in
    flat_map-append f (take i vs) (w ∷ drop j vs)
    ∙ ap (λ (ws : List Version). ws ++ (f w ++ flat_map f (drop j vs))) front
    ∙ ap (λ (ws : List Version). take i vs ++ (ws ++ flat_map f (drop j vs))) (cond-true (eqb w.pos pos) _ _ (eq-eqb w.pos pos e))
    ∙ ap (λ (ws : List Version). take i vs ++ (stood pos was ++ ws)) back

-- ---- After a put

split_there : (count : ℕ) (vs : List Version) (d : Version) → 0 < count → count ≤ length vs → vs ≡ take (count - 1) vs ++ get_or vs (count - 1) d ∷ drop count vs
split_there zero vs d n l = absurd (omega arith)
split_there (suc count) vs d n l = let e : suc count - 1 ≡ count = omega arith in rw e (split_at vs count d (omega arith))

stood_same : (pos : ℕ) (o : Version) → o.pos ≡ pos → stood pos (Some o.value) ≡ o ∷ []
stood_same pos o e = ap (λ (p : ℕ). record { pos = p; value = o.value } ∷ []) (sym e)

pub put_there_back : (count : ℕ) (vs : List Version) (w o : Version) → AscendsFrom 0 vs → IsCountUpTo w.pos vs count → EndsAt w.pos vs count → o ≡ get_or vs (count - 1) o
    → row_restored w.pos (Some o.value) (set vs (count - 1) w) ≡ vs
put_there_back count vs w o a c e h =
    let at : o.pos ≡ w.pos = ap (λ (v : Version). v.pos) h ∙ e.same o in
    ap (row_restored w.pos (Some o.value)) (replaced vs count w e.some c.within)
    ∙ at_place w.pos (count - 1) count (Some o.value) vs w refl (parts_equal w.pos count vs a c e)
    ∙ ap (λ (ws : List Version). take (count - 1) vs ++ (ws ++ drop count vs)) (stood_same w.pos o at)
    ∙ ap (λ (v : Version). take (count - 1) vs ++ v ∷ drop count vs) h
    ∙ sym (split_there count vs o e.some c.within)

pub put_new_back : (count : ℕ) (vs : List Version) (w : Version) → AscendsFrom 0 vs → IsCountUpTo w.pos vs count → EndsApart w.pos vs count
    → row_restored w.pos None (insert vs count w) ≡ vs
put_new_back count vs w a c e =
    at_place w.pos count count None vs w refl (parts_apart w.pos count vs a c e) ∙ take-append-drop count vs

-- ---- How it is taken back

back_at : (pos count : ℕ) (was : Option (List ℤ)) (vs : List Version) (d : Version) → AscendsFrom 0 vs → IsCountUpTo pos vs count → EndsAt pos vs count
    → row_restored pos was vs ≡ take (count - 1) vs ++ (stood pos was ++ drop count vs)
back_at pos count was vs d a c e =
    ap (row_restored pos was) (split_there count vs d e.some c.within)
    ∙ at_place pos (count - 1) count was vs (get_or vs (count - 1) d) (e.same d) (parts_equal pos count vs a c e)

pub back_replaced : (count : ℕ) (vs : List Version) (w : Version) → AscendsFrom 0 vs → IsCountUpTo w.pos vs count → EndsAt w.pos vs count
    → set vs (count - 1) w ≡ row_restored w.pos (Some w.value) vs
back_replaced count vs w a c e = replaced vs count w e.some c.within ∙ sym (back_at w.pos count (Some w.value) vs w a c e)

pub back_removed : (pos count : ℕ) (vs : List Version) (d : Version) → AscendsFrom 0 vs → IsCountUpTo pos vs count → EndsAt pos vs count
    → remove vs (count - 1) ≡ row_restored pos None vs
back_removed pos zero vs d a c e = absurd (omega (arith, e.some))
back_removed pos (suc count) vs d a c e =
    let n : suc count - 1 ≡ count = omega arith in
    let back : row_restored pos None vs ≡ take (suc count - 1) vs ++ drop (suc count) vs = back_at pos (suc count) None vs d a c e in
    ap (λ (m : ℕ). take m vs ++ drop (suc m) vs) n ∙ sym (subst (λ (m : ℕ). row_restored pos None vs ≡ take m vs ++ drop (suc count) vs) n back)

pub back_none : (pos count : ℕ) (was : Option (List ℤ)) (vs : List Version) → AscendsFrom 0 vs → IsCountUpTo pos vs count → EndsApart pos vs count
    → vs ≡ row_restored pos was vs
back_none pos count was vs a c e =
    let p = parts_apart pos count vs a c e in
    sym (unchanged pos was vs (λ k d l at. go k d l at p (cases_lt k count)))
  where
    go : (k : ℕ) (d : Version) → k < length vs → (get_or vs k d).pos ≡ pos → Parts pos vs count count → (k < count) ⊎ (count ≤ k) → ⊥
    go k d l at p (inl low) = omega (arith, p.before k d low l)
    go k d l at p (inr high) = omega (arith, p.behind k d high l)

-- ---- Order, and length

pub restored_ascends : (pos : ℕ) (was : Option (List ℤ)) (low : ℕ) (vs : List Version) → AscendsFrom low vs → AscendsFrom low (row_restored pos was vs)
restored_ascends pos was low [] a = tt
restored_ascends pos was low (v ∷ vs) a = go (cases_eq v.pos pos) was (restored_ascends pos was (v.pos + 1) vs a.1)
  where
    go : (v.pos ≡ pos) ⊎ (v.pos ≡ pos → ⊥) → (o : Option (List ℤ)) → AscendsFrom (v.pos + 1) (row_restored pos was vs) → AscendsFrom low (cond (eqb v.pos pos) (stood pos o) (v ∷ []) ++ row_restored pos was vs)
    go (inl e) None r = rw (eq-eqb v.pos pos e) (ascends_lower low (v.pos + 1) _ (omega (arith, a.0)) r)
    go (inl e) (Some value) r = rw (eq-eqb v.pos pos e) (omega (arith, a.0), subst (λ (p : ℕ). AscendsFrom (p + 1) (row_restored pos was vs)) e r)
    go (inr ne) o r = rw (ne_eqb v.pos pos ne) (a.0, r)

stood_few : (pos : ℕ) (was : Option (List ℤ)) → length (stood pos was) ≤ 1
stood_few pos None = omega arith
stood_few pos (Some value) = omega arith

few_at : (b : Bool) (pos : ℕ) (was : Option (List ℤ)) (v : Version) → length (cond b (stood pos was) (v ∷ [])) ≤ 1
few_at true pos was v = stood_few pos was
few_at false pos was v = omega arith

pub restored_shorter : (pos : ℕ) (was : Option (List ℤ)) (vs : List Version) → length (row_restored pos was vs) ≤ length vs
restored_shorter pos was [] = omega arith
restored_shorter pos was (v ∷ vs) =
    omega (arith, length-append (cond (eqb v.pos pos) (stood pos was) (v ∷ [])) (row_restored pos was vs), few_at (eqb v.pos pos) pos was v, restored_shorter pos was vs)

-- ---- Of all objects

tagged_back : (x pos : ℕ) (was : Option (List ℤ)) (vs : List Version) → tagged x (row_restored pos was vs) ≡ restored x pos was (tagged x vs)
tagged_back x pos was [] = refl
tagged_back x pos was (v ∷ vs) =
    map-append (as_held x) (cond (eqb v.pos pos) (stood pos was) (v ∷ [])) (row_restored pos was vs)
    ∙ ap (λ (hs : List Held). hs ++ tagged x (row_restored pos was vs)) (one (eqb v.pos pos) was)
    ∙ ap (λ (hs : List Held). cond (eqb x x && eqb v.pos pos) (stood_at x pos was) (as_held x v ∷ []) ++ hs) (tagged_back x pos was vs)
  where
    one : (b : Bool) (o : Option (List ℤ)) → tagged x (cond b (stood pos o) (v ∷ [])) ≡ cond (eqb x x && b) (stood_at x pos o) (as_held x v ∷ [])
    one true None = rw (eq-eqb x x refl) refl
    one true (Some value) = rw (eq-eqb x x refl) refl
    one false o = rw (eq-eqb x x refl) refl

other_stays : (x b pos : ℕ) (was : Option (List ℤ)) (vs : List Version) → (b ≡ x → ⊥) → restored x pos was (tagged b vs) ≡ tagged b vs
other_stays x b pos was [] ne = refl
other_stays x b pos was (v ∷ vs) ne =
    ap (λ (hs : List Held). hs ++ restored x pos was (tagged b vs)) (cond-false (eqb b x && eqb v.pos pos) _ _ (and_left _ _ (ne_eqb b x ne)))
    ∙ ap (λ hs. as_held b v ∷ hs) (other_stays x b pos was vs ne)

both_back : (x pos : ℕ) (was : Option (List ℤ)) (hs ks : List Held) → restored x pos was (hs ++ ks) ≡ restored x pos was hs ++ restored x pos was ks
both_back x pos was hs ks = flat_map-append (λ (h : Held). cond (eqb h.object x && eqb h.pos pos) (stood_at x pos was) (h ∷ [])) hs ks

others_stay : (x b pos : ℕ) (was : Option (List ℤ)) (rows : List (List Version)) → x < b → restored x pos was (flat_from b rows) ≡ flat_from b rows
others_stay x b pos was [] l = refl
others_stay x b pos was (vs ∷ rows) l =
    both_back x pos was (tagged b vs) (flat_from (b + 1) rows)
    ∙ ap (λ (hs : List Held). hs ++ restored x pos was (flat_from (b + 1) rows)) (other_stays x b pos was vs (λ e. omega arith))
    ∙ ap (λ (hs : List Held). tagged b vs ++ hs) (others_stay x (b + 1) pos was rows (omega arith))

pub none_stays : (x b pos : ℕ) (was : Option (List ℤ)) (rows : List (List Version)) → b + length rows ≤ x → restored x pos was (flat_from b rows) ≡ flat_from b rows
none_stays x b pos was [] l = refl
none_stays x b pos was (vs ∷ rows) l =
    both_back x pos was (tagged b vs) (flat_from (b + 1) rows)
    ∙ ap (λ (hs : List Held). hs ++ restored x pos was (flat_from (b + 1) rows)) (other_stays x b pos was vs (λ e. omega arith))
    ∙ ap (λ (hs : List Held). tagged b vs ++ hs) (none_stays x (b + 1) pos was rows (omega arith))

back_from : (x b k pos : ℕ) (was : Option (List ℤ)) (rows : List (List Version)) (row : List Version) → x ≡ b + k → k < length rows
    → restored x pos was (flat_from b (set rows k row)) ≡ flat_from b (set rows k (row_restored pos was row))
back_from x b k pos was [] row e l = absurd (omega arith)
back_from x b zero pos was (vs ∷ rows) row e l =
    let here : x ≡ b = omega arith in
    both_back x pos was (tagged b row) (flat_from (b + 1) rows)
    ∙ ap (λ (hs : List Held). hs ++ restored x pos was (flat_from (b + 1) rows)) (ap (λ (c : ℕ). restored c pos was (tagged b row)) here ∙ sym (tagged_back b pos was row))
    ∙ ap (λ (hs : List Held). tagged b (row_restored pos was row) ++ hs) (others_stay x (b + 1) pos was rows (omega arith))
back_from x b (suc k) pos was (vs ∷ rows) row e l =
    both_back x pos was (tagged b vs) (flat_from (b + 1) (set rows k row))
    ∙ ap (λ (hs : List Held). hs ++ restored x pos was (flat_from (b + 1) (set rows k row))) (other_stays x b pos was vs (λ f. omega arith))
    ∙ ap (λ (hs : List Held). tagged b vs ++ hs) (back_from x (b + 1) k pos was rows row (omega arith) (omega arith))

pub back_flat : (x pos : ℕ) (was : Option (List ℤ)) (rows : List (List Version)) (row : List Version) → x < length rows
    → restored x pos was (flat (set rows x row)) ≡ flat (set rows x (row_restored pos was row))
back_flat x pos was rows row l = back_from x 0 x pos was rows row (omega arith) l

-- a put of one object, taken back
pub put_back : (x pos : ℕ) (was : Option (List ℤ)) (rows : List (List Version)) (row : List Version) → x < length rows → row_restored pos was row ≡ get_or rows x []
    → restored x pos was (flat (set rows x row)) ≡ flat rows
put_back x pos was rows row l e =
    back_flat x pos was rows row l ∙ ap (λ (r : List Version). flat (set rows x r)) e ∙ ap flat (set-get_or rows x [])

pub took_back : (x pos : ℕ) (was : Option (List ℤ)) (rows : List (List Version)) (row : List Version) → x < length rows → row ≡ row_restored pos was (get_or rows x [])
    → flat (set rows x row) ≡ restored x pos was (flat rows)
took_back x pos was rows row l e =
    ap (λ (r : List Version). flat (set rows x r)) e ∙ sym (back_flat x pos was rows (get_or rows x []) l) ∙ ap (λ (rs : List (List Version)). restored x pos was (flat rs)) (set-get_or rows x [])
