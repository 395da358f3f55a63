-- What lies under a number, after changes at other numbers.
use Rattle.std.proofs.Common.{◌≡◌, ◌≢◌, ◌⊎◌, inl, inr, ℕ, suc, ◌<◌, Bool, true, false, ◌||◌, nat_eq, not, List, [], ◌∷◌, ◌++◌, length, Option, Some, None, refl, sym, ap, ◌∙◌, arith, ne_eqb}
use Rattle.std.specs.Prelude.{if◌then◌else◌}
use Rattle.std.proofs.lemmas.Bool.{eqb-true, eq-eqb, true≢false}
use Rattle.sv_ports.specs.declared.numbered.NumberedPlace.{NumberedPlace}
use Rattle.sv_ports.specs.Numbered.{has_number, IsAbove, item_of, with_item, without}

clash : {A : Type 0} {b : Bool} → b ≡ true → b ≡ false → A
clash t f = absurd (true≢false (sym t ∙ f))

pub same_or_not : (n m : ℕ) → (n ≡ m) ⊎ (nat_eq n m ≡ false)
same_or_not n m = go (nat_eq n m) refl
  where
    go : (b : Bool) → nat_eq n m ≡ b → (n ≡ m) ⊎ (nat_eq n m ≡ false)
    go true e = inl (eqb-true n m e)
    go false e = inr e

module _ {T : Type 0} where
  pub other_item : (n m : ℕ) (item : Option T) (ps : List (NumberedPlace T)) → nat_eq m n ≡ false → item_of m (with_item n item ps) ≡ item_of m ps
  other_item n m item [] differ = refl
  other_item n m item (p ∷ ps) differ = go (nat_eq n p.number) refl (other_item n m item ps differ)
    where
      put : Bool → NumberedPlace T
      put b = if b then record p { item = item } else p

      go : (b : Bool) → nat_eq n p.number ≡ b → item_of m (with_item n item ps) ≡ item_of m ps
          → (if nat_eq m (put b).number then (put b).item else item_of m (with_item n item ps)) ≡ (if nat_eq m p.number then p.item else item_of m ps)
      go false e rest = ap (λ (o : Option T). if nat_eq m p.number then p.item else o) rest
      go true e rest = inner (nat_eq m p.number) refl
        where
          inner : (c : Bool) → nat_eq m p.number ≡ c → (if c then item else item_of m (with_item n item ps)) ≡ (if c then p.item else item_of m ps)
          inner false f = rest
          inner true f = clash (eq-eqb m n (eqb-true m p.number f ∙ sym (eqb-true n p.number e))) differ

  pub own_item : (n : ℕ) (item : Option T) (ps : List (NumberedPlace T)) → (item_of n (with_item n item ps) ≡ item) ⊎ (item_of n (with_item n item ps) ≡ None)
  own_item n item [] = inr refl
  own_item n item (p ∷ ps) = go (nat_eq n p.number) refl (own_item n item ps)
    where
      put : Bool → NumberedPlace T
      put b = if b then record p { item = item } else p

      go : (b : Bool) → nat_eq n p.number ≡ b → (item_of n (with_item n item ps) ≡ item) ⊎ (item_of n (with_item n item ps) ≡ None)
          → ((if nat_eq n (put b).number then (put b).item else item_of n (with_item n item ps)) ≡ item)
          ⊎ ((if nat_eq n (put b).number then (put b).item else item_of n (with_item n item ps)) ≡ None)
      go true e rest = inl (ap (λ (c : Bool). if c then item else item_of n (with_item n item ps)) e)
      go false e (inl rest) = inl (ap (λ (c : Bool). if c then p.item else item_of n (with_item n item ps)) e ∙ rest)
      go false e (inr rest) = inr (ap (λ (c : Bool). if c then p.item else item_of n (with_item n item ps)) e ∙ rest)

  pub pushed_item : (m : ℕ) (q : NumberedPlace T) (ps : List (NumberedPlace T)) (x : T) → item_of m (ps ++ q ∷ []) ≡ Some x
      → (item_of m ps ≡ Some x) ⊎ ((m ≡ q.number) × (q.item ≡ Some x))
  pushed_item m q [] x e = go (nat_eq m q.number) refl e
    where
      go : (b : Bool) → nat_eq m q.number ≡ b → (if b then q.item else None) ≡ Some x → (None ≡ Some x) ⊎ ((m ≡ q.number) × (q.item ≡ Some x))
      go true f is = inr (eqb-true m q.number f, is)
      go false f is = inl is
  pushed_item m q (p ∷ ps) x e = go (nat_eq m p.number) e (pushed_item m q ps x)
    where
      go : (b : Bool) → (if b then p.item else item_of m (ps ++ q ∷ [])) ≡ Some x
          → (item_of m (ps ++ q ∷ []) ≡ Some x → (item_of m ps ≡ Some x) ⊎ ((m ≡ q.number) × (q.item ≡ Some x)))
          → ((if b then p.item else item_of m ps) ≡ Some x) ⊎ ((m ≡ q.number) × (q.item ≡ Some x))
      go true is rest = inl is
      go false is rest = rest is

  pub left_item : (n m : ℕ) (ps : List (NumberedPlace T)) → nat_eq m n ≡ false → item_of m (without n ps) ≡ item_of m ps
  left_item n m [] differ = refl
  left_item n m (p ∷ ps) differ = go (nat_eq n p.number) refl (left_item n m ps differ)
    where
      go : (b : Bool) → nat_eq n p.number ≡ b → item_of m (without n ps) ≡ item_of m ps
          → item_of m (if not b then p ∷ without n ps else without n ps) ≡ (if nat_eq m p.number then p.item else item_of m ps)
      go false e rest = ap (λ (o : Option T). if nat_eq m p.number then p.item else o) rest
      go true e rest = inner (nat_eq m p.number) refl
        where
          inner : (c : Bool) → nat_eq m p.number ≡ c → item_of m (without n ps) ≡ (if c then p.item else item_of m ps)
          inner false f = rest
          inner true f = clash (eq-eqb m n (eqb-true m p.number f ∙ sym (eqb-true n p.number e))) differ

  pub none_left : (n : ℕ) (ps : List (NumberedPlace T)) → item_of n (without n ps) ≡ None
  none_left n [] = refl
  none_left n (p ∷ ps) = go (nat_eq n p.number) refl (none_left n ps)
    where
      go : (b : Bool) → nat_eq n p.number ≡ b → item_of n (without n ps) ≡ None → item_of n (if not b then p ∷ without n ps else without n ps) ≡ None
      go true e rest = rest
      go false e rest = ap (λ (c : Bool). if c then p.item else item_of n (without n ps)) e ∙ rest

  -- ---- Numbers with places

  pub number_of_item : (n : ℕ) (ps : List (NumberedPlace T)) (x : T) → item_of n ps ≡ Some x → has_number n ps ≡ true
  number_of_item n [] x is = let never : None ≡ Some x = is in cc
  number_of_item n (p ∷ ps) x is = go (nat_eq n p.number) is (number_of_item n ps x)
    where
      go : (b : Bool) → (if b then p.item else item_of n ps) ≡ Some x → (item_of n ps ≡ Some x → has_number n ps ≡ true) → (b || has_number n ps) ≡ true
      go true is rest = refl
      go false is rest = rest is

  pub kept_number : (n : ℕ) (item : Option T) (ps : List (NumberedPlace T)) → has_number n (with_item n item ps) ≡ has_number n ps
  kept_number n item [] = refl
  kept_number n item (p ∷ ps) = go (nat_eq n p.number) refl (kept_number n item ps)
    where
      put : Bool → NumberedPlace T
      put b = if b then record p { item = item } else p

      go : (b : Bool) → nat_eq n p.number ≡ b → has_number n (with_item n item ps) ≡ has_number n ps
          → (nat_eq n (put b).number || has_number n (with_item n item ps)) ≡ (nat_eq n p.number || has_number n ps)
      go true e rest = ap (λ (b : Bool). nat_eq n p.number || b) rest
      go false e rest = ap (λ (b : Bool). nat_eq n p.number || b) rest

  -- What is put into a place lies there.
  pub put_item : (n : ℕ) (item : Option T) (ps : List (NumberedPlace T)) → has_number n ps ≡ true → item_of n (with_item n item ps) ≡ item
  put_item n item [] has = clash has refl
  put_item n item (p ∷ ps) has = go (nat_eq n p.number) refl has (put_item n item ps)
    where
      put : Bool → NumberedPlace T
      put b = if b then record p { item = item } else p

      go : (b : Bool) → nat_eq n p.number ≡ b → (b || has_number n ps) ≡ true → (has_number n ps ≡ true → item_of n (with_item n item ps) ≡ item)
          → (if nat_eq n (put b).number then (put b).item else item_of n (with_item n item ps)) ≡ item
      go true e has rest = ap (λ (c : Bool). if c then item else item_of n (with_item n item ps)) e
      go false e has rest = ap (λ (c : Bool). if c then p.item else item_of n (with_item n item ps)) e ∙ rest has

  pub pushed_own : (n : ℕ) (item : Option T) (ps : List (NumberedPlace T)) → IsAbove n ps → item_of n (ps ++ record { number = n; item = item } ∷ []) ≡ item
  pushed_own n item [] above = ap (λ (c : Bool). if c then item else None) (eq-eqb n n refl)
  pushed_own n item (p ∷ ps) above =
      ap (λ (c : Bool). if c then p.item else item_of n (ps ++ record { number = n; item = item } ∷ [])) (ne_eqb n p.number unlike)
      ∙ pushed_own n item ps (λ i d low. above (suc i) d (omega (arith, low)))
    where
      unlike : n ≡ p.number → ⊥
      unlike same = let less : p.number < n = above 0 p (omega arith) in omega (arith, less, same)

  pub pushed_none : (m n : ℕ) (item : Option T) (ps : List (NumberedPlace T)) → nat_eq m n ≡ false → item_of m (ps ++ record { number = n; item = item } ∷ []) ≡ None → item_of m ps ≡ None
  pushed_none m n item [] differ none = refl
  pushed_none m n item (p ∷ ps) differ none = go (nat_eq m p.number) none (pushed_none m n item ps differ)
    where
      go : (b : Bool) → (if b then p.item else item_of m (ps ++ record { number = n; item = item } ∷ [])) ≡ None
          → (item_of m (ps ++ record { number = n; item = item } ∷ []) ≡ None → item_of m ps ≡ None) → (if b then p.item else item_of m ps) ≡ None
      go true is rest = is
      go false is rest = rest is
