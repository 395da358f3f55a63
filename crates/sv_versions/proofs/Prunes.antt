-- The versions of one object, pruned.
use Rattle.std.proofs.Common.{◌≡◌, ℕ, zero, suc, ◌+◌, ◌-◌, ◌<◌, ◌≤◌, ◌⊎◌, inl, inr, Bool, true, false, cond, not, ◌&&◌, ltb, leb, List, [], ◌∷◌, length, get_or, drop, refl, sym, ap, ◌∙◌, arith}
use Rattle.std.specs.List.{filter, list_any}
use Rattle.std.proofs.lemmas.Bool.{lt-ltb, le-ltb, le-leb, lt-leb, and_from, and_left, and_right, cases_lt}
use Rattle.std.proofs.lemmas.List.{get_or_default, length-drop, get_or-drop}
use Rattle.std.proofs.lemmas.List.Folds.{list_any_at, list_any_none}
use Rattle.std.proofs.lemmas.List.Elements.{filter_agree}
use Rattle.sv_versions.specs.declared.history.Version.{Version}
use Rattle.sv_versions.specs.Held.{is_outdated, pruned, count_up_to}
use Rattle.sv_versions.specs.Histories.{AscendsFrom, IsCountUpTo, as_held, tagged}
use Rattle.sv_versions.proofs.Lists.{filter_back, filter_map_is, list_any_map_is}
use Rattle.sv_versions.proofs.Rows.{own, ordered, not_after, counted}

-- some version stands behind a position and up to the commit
abbrev stands_between : ℕ → ℕ → Version → Bool
stands_between pos commit w = ltb pos w.pos && leb w.pos commit

fails_at : (commit count pos k : ℕ) (vs : List Version) (d e : Version) → AscendsFrom 0 vs → IsCountUpTo commit vs count → 0 < count → (get_or vs (count - 1) d).pos ≤ pos → k < length vs → (k < count) ⊎ (count ≤ k) → stands_between pos commit (get_or vs k e) ≡ false
fails_at commit count pos k vs d e a c n up l (inl low) =
    let last : (get_or vs (count - 1) e).pos ≡ (get_or vs (count - 1) d).pos = ap (λ (v : Version). v.pos) (get_or_default vs (count - 1) e d (omega (arith, c.within))) in
    let near : (get_or vs k e).pos ≤ (get_or vs (count - 1) e).pos = not_after 0 vs k (count - 1) e a (omega arith) (omega (arith, c.within)) in
    and_left _ _ (le-ltb pos (get_or vs k e).pos (omega arith))
fails_at commit count pos k vs d e a c n up l (inr high) = and_right _ _ (lt-leb _ _ (c.high k e high l))

between_cases : (commit count pos : ℕ) (vs : List Version) (d : Version) → AscendsFrom 0 vs → IsCountUpTo commit vs count → 0 < count → (pos < (get_or vs (count - 1) d).pos) ⊎ ((get_or vs (count - 1) d).pos ≤ pos) → list_any (stands_between pos commit) vs ≡ ltb pos (get_or vs (count - 1) d).pos
between_cases commit count pos vs d a c n (inl behind) =
    list_any_at (stands_between pos commit) vs (count - 1) d (omega (arith, c.within)) (and_from _ _ (lt-ltb _ _ behind) (le-leb _ _ (c.low (count - 1) d (omega arith))))
    ∙ sym (lt-ltb _ _ behind)
between_cases commit count pos vs d a c n (inr up_to) =
    list_any_none (stands_between pos commit) vs (λ k e l. fails_at commit count pos k vs d e a c n up_to l (cases_lt k count))
    ∙ sym (le-ltb _ _ up_to)

-- that is so just where the last one counted stands behind the position
between_is : (commit count pos : ℕ) (vs : List Version) (d : Version) → AscendsFrom 0 vs → IsCountUpTo commit vs count → 0 < count → list_any (stands_between pos commit) vs ≡ ltb pos (get_or vs (count - 1) d).pos
between_is commit count pos vs d a c n = between_cases commit count pos vs d a c n (cases_lt pos (get_or vs (count - 1) d).pos)

outdated_is : (commit x : ℕ) (vs : List Version) (v : Version) → is_outdated commit (tagged x vs) (as_held x v) ≡ list_any (stands_between v.pos commit) vs
outdated_is commit x vs v =
    ap (λ hs. list_any (λ k. ltb v.pos k.pos && leb k.pos commit) hs) (own x vs)
    ∙ list_any_map_is (as_held x) (λ k. ltb v.pos k.pos && leb k.pos commit) vs

pruned_by : (commit x : ℕ) (vs : List Version) (t : Version → Bool) → ((v : Version) → t v ≡ not (list_any (stands_between v.pos commit) vs)) → tagged x (filter t vs) ≡ pruned commit (tagged x vs)
pruned_by commit x vs t h =
    ap (λ ws. tagged x ws) (filter_agree t _ (λ v. h v ∙ ap not (sym (outdated_is commit x vs v))) vs)
    ∙ sym (filter_map_is (as_held x) (λ h. not (is_outdated commit (tagged x vs) h)) vs)

flipped : (a b : ℕ) → (a < b) ⊎ (b ≤ a) → leb b a ≡ not (ltb a b)
flipped a b (inl h) = lt-leb b a h ∙ sym (ap not (lt-ltb a b h))
flipped a b (inr h) = le-leb b a h ∙ sym (ap not (le-ltb a b h))

-- what is kept by its place, where some version stands up to the commit
pub prune_some : (commit count x newest : ℕ) (vs : List Version) (d : Version) → AscendsFrom 0 vs → IsCountUpTo commit vs count → 0 < count → newest ≡ (get_or vs (count - 1) d).pos → tagged x (filter (λ v. leb newest v.pos) vs) ≡ pruned commit (tagged x vs)
prune_some commit count x newest vs d a c n e =
    pruned_by commit x vs (λ v. leb newest v.pos)
    (λ v. flipped v.pos newest (cases_lt v.pos newest) ∙ ap not (ap (λ q. ltb v.pos q) e ∙ sym (between_is commit count v.pos vs d a c n)))

kept_back : (count newest : ℕ) (vs : List Version) (d : Version) → AscendsFrom 0 vs → 0 < count → count ≤ length vs → newest ≡ (get_or vs (count - 1) d).pos → filter (λ v. leb newest v.pos) vs ≡ drop (count - 1) vs
kept_back count newest vs d a n l e =
    filter_back (λ v. leb newest v.pos) vs (count - 1)
    (λ k f h m. lt-leb _ _ (omega (arith, e, ordered 0 vs k (count - 1) f a h (omega arith), ap (λ (v : Version). v.pos) (get_or_default vs (count - 1) f d (omega arith)))))
    (λ k f h m. le-leb _ _ (omega (arith, e, not_after 0 vs (count - 1) k f a h m, ap (λ (v : Version). v.pos) (get_or_default vs (count - 1) f d (omega arith)))))

-- at most one stands up to the commit: nothing is left out
pub prune_few : (commit count x : ℕ) (vs : List Version) → AscendsFrom 0 vs → IsCountUpTo commit vs count → count ≤ 1 → tagged x vs ≡ pruned commit (tagged x vs)
prune_few commit zero x vs a c h =
    ap (λ ws. tagged x ws) (sym (filter_back (λ v. true) vs 0 (λ k d l m. absurd (omega arith)) (λ k d l m. refl)))
    ∙ pruned_by commit x vs (λ v. true) (λ v. sym (ap not (list_any_none (stands_between v.pos commit) vs (λ k d l. and_right _ _ (lt-leb _ _ (c.high k d (omega arith) l))))))
prune_few commit (suc zero) x (v ∷ vs) a c h =
    ap (λ ws. tagged x ws) (sym (kept_back 1 v.pos (v ∷ vs) v a (omega arith) (omega arith) refl))
    ∙ prune_some commit 1 x v.pos (v ∷ vs) v a c (omega arith) refl
prune_few commit (suc zero) x [] a c h = absurd (omega (arith, c.within))
prune_few commit (suc (suc count)) x vs a c h = absurd (omega arith)

pub ascends_lower : (low high : ℕ) (vs : List Version) → low ≤ high → AscendsFrom high vs → AscendsFrom low vs
ascends_lower low high [] h a = tt
ascends_lower low high (v ∷ vs) h a = (omega (arith, a.0), a.1)

pub filter_ascends : (t : Version → Bool) (low : ℕ) (vs : List Version) → AscendsFrom low vs → AscendsFrom low (filter t vs)
filter_ascends t low [] a = tt
filter_ascends t low (v ∷ vs) a = go (t v) (filter_ascends t (v.pos + 1) vs a.1)
  where
    go : (b : Bool) → AscendsFrom (v.pos + 1) (filter t vs) → AscendsFrom low (cond b (v ∷ filter t vs) (filter t vs))
    go true r = (a.0, r)
    go false r = ascends_lower low (v.pos + 1) _ (omega (arith, a.0)) r

left_one : (commit count : ℕ) (vs : List Version) → IsCountUpTo commit vs count → 0 < count → IsCountUpTo commit (drop (count - 1) vs) 1
left_one commit count vs c n = record {
  within = omega (arith, length-drop (count - 1) vs, c.within);
  low = λ k d l. let zero_th : k ≡ 0 = omega arith in
      let read : get_or (drop (count - 1) vs) k d ≡ get_or vs (count - 1 + k) d = get_or-drop (count - 1) vs k d in
      omega (arith, ap (λ (v : Version). v.pos) read, c.low (count - 1 + k) d (omega arith));
  high = λ k d l m. let read : get_or (drop (count - 1) vs) k d ≡ get_or vs (count - 1 + k) d = get_or-drop (count - 1) vs k d in
      omega (arith, ap (λ (v : Version). v.pos) read, c.high (count - 1 + k) d (omega arith) (omega (arith, length-drop (count - 1) vs)));
}

pub few_left : (commit count x newest : ℕ) (vs : List Version) (d : Version) → AscendsFrom 0 vs → IsCountUpTo commit vs count → 0 < count → newest ≡ (get_or vs (count - 1) d).pos → count_up_to (tagged x (filter (λ v. leb newest v.pos) vs)) x commit ≤ 1
few_left commit count x newest vs d a c n e =
    let one : 1 ≡ count_up_to (tagged x (drop (count - 1) vs)) x commit = counted x commit 1 (drop (count - 1) vs) (left_one commit count vs c n) in
    let back : filter (λ v. leb newest v.pos) vs ≡ drop (count - 1) vs = kept_back count newest vs d a n c.within e in
    omega (arith, one, ap (λ ws. count_up_to (tagged x ws) x commit) back)
