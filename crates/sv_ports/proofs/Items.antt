-- What holds of each thing of a table by numbers goes on holding, for who keeps such a table.
use Rattle.std.proofs.Common.{◌≡◌, ℕ, inl, inr, ◌⊎◌, Bool, true, false, not, cond, List, [], ◌∷◌, ◌++◌, nat_eq, Option, Some, None, refl, sym, ◌∙◌, ap, subst, eq-eqb, ne_eqb}
use Rattle.std.proofs.lemmas.Bool.{cond-true, cond-false, cases_eq}
use Rattle.sv_ports.specs.declared.numbered.NumberedPlace.{NumberedPlace}
use Rattle.sv_ports.specs.Numbered.{item_of, with_item, without, AllItems}

module _ {T : Type 0} where
  -- ---- The thing of a number after a change

  none-some : (x : T) → ◌≡◌ {A = Option T} None (Some x) → ⊥
  none-some x e = cc

  some-same : (a b : T) → ◌≡◌ {A = Option T} (Some a) (Some b) → a ≡ b
  some-same a b e = cc

  pub other-with : (k n : ℕ) (o : Option T) (xs : List (NumberedPlace T)) → (k ≡ n → ⊥) → item_of k (with_item n o xs) ≡ item_of k xs
  other-with k n o [] apart = refl
  other-with k n o (x ∷ xs) apart = elim (cases_eq n x.number) [
    | inl same ↦ (
        let unlike : nat_eq k x.number ≡ false = ne_eqb k x.number (λ e. apart (e ∙ sym same)) in
        ap (λ (p : NumberedPlace T). item_of k (p ∷ with_item n o xs)) (cond-true (nat_eq n x.number) (record x { item = o }) x (eq-eqb n x.number same))
        ∙ cond-false (nat_eq k x.number) o (item_of k (with_item n o xs)) unlike ∙ other-with k n o xs apart
        ∙ sym (cond-false (nat_eq k x.number) x.item (item_of k xs) unlike))
    | inr other ↦ (
        ap (λ (p : NumberedPlace T). item_of k (p ∷ with_item n o xs)) (cond-false (nat_eq n x.number) (record x { item = o }) x (ne_eqb n x.number other))
        ∙ ap (λ (r : Option T). cond (nat_eq k x.number) x.item r) (other-with k n o xs apart))
  ]

  pub own-with : (n : ℕ) (o : Option T) (xs : List (NumberedPlace T)) → (item_of n (with_item n o xs) ≡ o) ⊎ (item_of n (with_item n o xs) ≡ None)
  own-with n o [] = inr refl
  own-with n o (x ∷ xs) = elim (cases_eq n x.number) [
    | inl same ↦ inl (
        ap (λ (p : NumberedPlace T). item_of n (p ∷ with_item n o xs)) (cond-true (nat_eq n x.number) (record x { item = o }) x (eq-eqb n x.number same))
        ∙ cond-true (nat_eq n x.number) o (item_of n (with_item n o xs)) (eq-eqb n x.number same))
    | inr other ↦ (
        let step : item_of n (with_item n o (x ∷ xs)) ≡ item_of n (with_item n o xs) =
        ap (λ (p : NumberedPlace T). item_of n (p ∷ with_item n o xs)) (cond-false (nat_eq n x.number) (record x { item = o }) x (ne_eqb n x.number other))
        ∙ cond-false (nat_eq n x.number) x.item (item_of n (with_item n o xs)) (ne_eqb n x.number other) in
        elim (own-with n o xs) [ inl is ↦ inl (step ∙ is) | inr out ↦ inr (step ∙ out) ])
  ]

  other-without : (k n : ℕ) (xs : List (NumberedPlace T)) → (k ≡ n → ⊥) → item_of k (without n xs) ≡ item_of k xs
  other-without k n [] apart = refl
  other-without k n (x ∷ xs) apart = elim (cases_eq n x.number) [
    | inl same ↦ (
        ap (λ (b : Bool). item_of k (cond (not b) (x ∷ without n xs) (without n xs))) (eq-eqb n x.number same) ∙ other-without k n xs apart
        ∙ sym (cond-false (nat_eq k x.number) x.item (item_of k xs) (ne_eqb k x.number (λ e. apart (e ∙ sym same)))))
    | inr other ↦ (
        ap (λ (b : Bool). item_of k (cond (not b) (x ∷ without n xs) (without n xs))) (ne_eqb n x.number other)
        ∙ ap (λ (r : Option T). cond (nat_eq k x.number) x.item r) (other-without k n xs apart))
  ]

  own-without : (n : ℕ) (xs : List (NumberedPlace T)) → item_of n (without n xs) ≡ None
  own-without n [] = refl
  own-without n (x ∷ xs) = elim (cases_eq n x.number) [
    | inl same ↦ ap (λ (b : Bool). item_of n (cond (not b) (x ∷ without n xs) (without n xs))) (eq-eqb n x.number same) ∙ own-without n xs
    | inr other ↦ (
        ap (λ (b : Bool). item_of n (cond (not b) (x ∷ without n xs) (without n xs))) (ne_eqb n x.number other)
        ∙ cond-false (nat_eq n x.number) x.item (item_of n (without n xs)) (ne_eqb n x.number other) ∙ own-without n xs)
  ]

  -- ---- All of them

  -- One is taken out.
  pub all-taken : (P : ℕ → T → Type 0) (n : ℕ) (xs : List (NumberedPlace T)) → AllItems P xs → AllItems P (with_item n None xs)
  all-taken P n xs all k x is = elim (cases_eq k n) [
    | inl same ↦ absurd (elim (own-with n None xs) [
      | inl none ↦ none-some x (sym none ∙ subst (λ (j : ℕ). item_of j (with_item n None xs) ≡ Some x) same is)
      | inr none ↦ none-some x (sym none ∙ subst (λ (j : ℕ). item_of j (with_item n None xs) ≡ Some x) same is)
    ])
    | inr other ↦ all k x (sym (other-with k n None xs other) ∙ is)
  ]

  -- One is put in.
  pub all-put : (P : ℕ → T → Type 0) (n : ℕ) (y : T) (xs : List (NumberedPlace T)) → AllItems P xs → P n y → AllItems P (with_item n (Some y) xs)
  all-put P n y xs all holds k x is = elim (cases_eq k n) [
    | inl same ↦ (
        let own : item_of n (with_item n (Some y) xs) ≡ Some x = subst (λ (j : ℕ). item_of j (with_item n (Some y) xs) ≡ Some x) same is in
        elim (own-with n (Some y) xs) [
          | inl put ↦ (let one : y ≡ x = some-same y x (sym put ∙ own) in subst (λ (j : ℕ). P j x) (sym same) (subst (λ (z : T). P n z) one holds))
          | inr none ↦ absurd (none-some x (sym none ∙ own))
        ])
    | inr other ↦ all k x (sym (other-with k n (Some y) xs other) ∙ is)
  ]

  -- While one is out, something changes that is no other's.
  pub all-else : (P Q : ℕ → T → Type 0) (n : ℕ) (xs : List (NumberedPlace T)) → ((k : ℕ) (x : T) → (k ≡ n → ⊥) → P k x → Q k x) → AllItems P (with_item n None xs) → AllItems Q (with_item n None xs)
  all-else P Q n xs weaker all k x is = weaker k x apart (all k x is)
    where
      apart : k ≡ n → ⊥
      apart same = elim (own-with n None xs) [
        | inl none ↦ none-some x (sym none ∙ subst (λ (j : ℕ). item_of j (with_item n None xs) ≡ Some x) same is)
        | inr none ↦ none-some x (sym none ∙ subst (λ (j : ℕ). item_of j (with_item n None xs) ≡ Some x) same is)
      ]

  -- A number goes.
  pub all-without : (P : ℕ → T → Type 0) (n : ℕ) (xs : List (NumberedPlace T)) → AllItems P xs → AllItems P (without n xs)
  all-without P n xs all k x is = elim (cases_eq k n) [
    | inl same ↦ absurd (none-some x (sym (own-without n xs) ∙ subst (λ (j : ℕ). item_of j (without n xs) ≡ Some x) same is))
    | inr other ↦ all k x (sym (other-without k n xs other) ∙ is)
  ]

  -- One comes.
  pushed : (k n : ℕ) (y x : T) (xs : List (NumberedPlace T)) → item_of k (xs ++ record { number = n; item = Some y } ∷ []) ≡ Some x → (item_of k xs ≡ Some x) ⊎ ((k ≡ n) × (y ≡ x))
  pushed k n y x [] is = elim (cases_eq k n) [
    | inl same ↦ inr (same, some-same y x (sym (cond-true (nat_eq k n) (Some y) None (eq-eqb k n same)) ∙ is))
    | inr other ↦ absurd (none-some x (sym (cond-false (nat_eq k n) (Some y) None (ne_eqb k n other)) ∙ is))
  ]
  pushed k n y x (p ∷ ps) is = elim (cases_eq k p.number) [
    | inl same ↦ inl (
        cond-true (nat_eq k p.number) p.item (item_of k ps) (eq-eqb k p.number same)
        ∙ sym (cond-true (nat_eq k p.number) p.item (item_of k (ps ++ record { number = n; item = Some y } ∷ [])) (eq-eqb k p.number same)) ∙ is)
    | inr other ↦ (
        let unlike : nat_eq k p.number ≡ false = ne_eqb k p.number other in
        elim (pushed k n y x ps (sym (cond-false (nat_eq k p.number) p.item (item_of k (ps ++ record { number = n; item = Some y } ∷ [])) unlike) ∙ is)) [
          | inl there ↦ inl (cond-false (nat_eq k p.number) p.item (item_of k ps) unlike ∙ there)
          | inr new ↦ inr new
        ])
  ]

  pub all-pushed : (P : ℕ → T → Type 0) (n : ℕ) (y : T) (xs : List (NumberedPlace T)) → AllItems P xs → P n y → AllItems P (xs ++ record { number = n; item = Some y } ∷ [])
  all-pushed P n y xs all holds k x is = elim (pushed k n y x xs is) [
    | inl there ↦ all k x there
    | inr new ↦ subst (λ (j : ℕ). P j x) (sym new.0) (subst (λ (z : T). P n z) new.1 holds)
  ]
