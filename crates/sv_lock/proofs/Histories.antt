-- Histories that go on, and the entries of a number in them.
use Rattle.std.proofs.Common.{◌≡◌, ◌≢◌, ℕ, ◌<◌, ◌≤◌, ◌==◌, List, [], ◌∷◌, ◌++◌, map, length, Contains, cond, sym, refl, ap, ◌∙◌, subst, arith, append_assoc, append-nil, length-append, eq-eqb, ne_eqb}
use mathlib.Core.List.{IsPrefix}
use Rattle.std.proofs.lemmas.List.Elements.{filter-append, All-head, All-tail, All-map, All-contains}
use Rattle.sv_lock.specs.Histories.{entries_of, AreJust, AreBelow}

module _ {E : Type 0} where
  pub prefix_self : (h : List E) → IsPrefix h h
  prefix_self h = ([], append-nil h)

  pub prefix_none : (h : List E) → IsPrefix [] h
  prefix_none h = (h, refl)

  pub prefix_trans : (a b c : List E) → IsPrefix a b → IsPrefix b c → IsPrefix a c
  prefix_trans a b c p q = (p.0 ++ q.0, sym (append_assoc a p.0 q.0) ∙ (ap (λ w. w ++ q.0) p.1 ∙ q.1))

  pub prefix_more : (a b c : List E) → IsPrefix a b → IsPrefix a (b ++ c)
  prefix_more a b c p = (p.0 ++ c, sym (append_assoc a p.0 c) ∙ ap (λ w. w ++ c) p.1)

module _ {E : Type 0} (number_of : E → ℕ) where
  pub one_more_entry : (n : ℕ) (h : List E) (e : E) → number_of e ≡ n → entries_of number_of n (h ++ e ∷ []) ≡ entries_of number_of n h ++ e ∷ []
  one_more_entry n h e is = filter-append (λ x. number_of x == n) h (e ∷ []) ∙ ap (λ b. entries_of number_of n h ++ cond b (e ∷ []) []) (eq-eqb (number_of e) n is)

  pub other_entry : (n : ℕ) (h : List E) (e : E) → number_of e ≢ n → entries_of number_of n (h ++ e ∷ []) ≡ entries_of number_of n h
  other_entry n h e other =
      filter-append (λ x. number_of x == n) h (e ∷ [])
      ∙ (ap (λ b. entries_of number_of n h ++ cond b (e ∷ []) []) (ne_eqb (number_of e) n other) ∙ append-nil (entries_of number_of n h))

  -- a number that no pass has yet has no entry
  pub none_above : (made n : ℕ) (h : List E) → made ≤ n → AreBelow number_of made h → entries_of number_of n h ≡ []
  none_above made n [] more below = refl
  none_above made n (e ∷ h) more below =
      let first : number_of e < made = All-head (λ (x : E). number_of x < made) e h below in
      ap (λ b. cond b (e ∷ entries_of number_of n h) (entries_of number_of n h)) (ne_eqb (number_of e) n (λ same. omega arith))
      ∙ none_above made n h more (All-tail (λ (x : E). number_of x < made) e h below)

  nothing_more : (a b : List E) → a ++ b ≡ a → b ≡ []
  nothing_more a [] e = refl
  nothing_more a (x ∷ b) e = let longer = length-append a (x ∷ b) in let same = ap length e in absurd (omega arith)

  first_below : (made : ℕ) (seen : List E) (e : E) (more : List E) → AreBelow number_of made (seen ++ e ∷ more) → number_of e < made
  first_below made [] e more below = All-head (λ (x : E). number_of x < made) e more below
  first_below made (x ∷ seen) e more below = first_below made seen e more (All-tail (λ (y : E). number_of y < made) x (seen ++ e ∷ more) below)

  -- where every number has just its list, both in what was seen and in the whole history, nothing came after what was seen
  pub all_seen : (made : ℕ) (lists : List (ℕ × List E)) (seen h : List E) → IsPrefix seen h → AreJust number_of seen lists → AreJust number_of h lists → AreBelow number_of made h
      → ((n : ℕ) → n < made → Contains (map (λ (x : ℕ × List E). x.0) lists) n) → h ≡ seen
  all_seen made lists seen h begins before after below all =
      sym begins.1 ∙ ends begins.0 (subst (λ (l : List E). AreJust number_of l lists) (sym begins.1) after) (subst (AreBelow number_of made) (sym begins.1) below)
    where
      none_of : (more : List E) → AreJust number_of (seen ++ more) lists → (n : ℕ) → n < made → entries_of number_of n more ≡ []
      none_of more just n lt =
          All-contains (λ (m : ℕ). entries_of number_of m more ≡ []) (map (λ (x : ℕ × List E). x.0) lists) n
          (All-map (λ (m : ℕ). entries_of number_of m more ≡ []) (λ (x : ℕ × List E). x.0) lists
          (λ k d in_range. nothing_more _ _ (sym (filter-append _ seen more) ∙ (just k d in_range ∙ sym (before k d in_range)))))
          (all n lt)

      ends : (more : List E) → AreJust number_of (seen ++ more) lists → AreBelow number_of made (seen ++ more) → seen ++ more ≡ seen
      ends [] just below' = append-nil seen
      ends (e ∷ more) just below' =
          let none : entries_of number_of (number_of e) (e ∷ more) ≡ [] = none_of (e ∷ more) just (number_of e) (first_below made seen e more below') in
          let first : entries_of number_of (number_of e) (e ∷ more) ≡ e ∷ entries_of number_of (number_of e) more = ap (λ b. cond b (e ∷ entries_of number_of (number_of e) more) (entries_of number_of (number_of e) more)) (eq-eqb (number_of e) (number_of e) refl) in
          let one = ap length (sym first ∙ none) in
          absurd (omega arith)
