-- Ascending lists of positions, and the greatest element below a bound.
use Rattle.std.proofs.Common.{◌≡◌, ℕ, zero, suc, ◌-◌, ◌<◌, ◌≤◌, Bool, true, false, ◌||◌, cond, nat_lt, nat_eq, List, [], ◌∷◌, length, max, get_or, ◌⊎◌, inl, inr, refl, sym, ◌∙◌, ap, arith}
use Rattle.std.proofs.lemmas.Bool.{lt-ltb, le-ltb, ltb-true, ltb-false, cases_eq, cases_lt, eq-eqb, ne_eqb, cond-false}
use Rattle.std.proofs.lemmas.List.{get_or_default}
use Rattle.std.specs.List.Sorted.{IsNonDecreasingBy, IsPartitionPoint}
use Rattle.sv_world.specs.Control.{is_in}
use Rattle.sv_queue.specs.Positions.{greatest_below, AreAbove, IsAscending}

pub greatest_below_bound : (xs : List ℕ) (n : ℕ) → greatest_below xs (suc n) ≤ n
greatest_below_bound [] n = omega arith
greatest_below_bound (x ∷ xs) n = go (nat_lt x (suc n)) refl (greatest_below_bound xs n)
  where
    go : (b : Bool) → nat_lt x (suc n) ≡ b → greatest_below xs (suc n) ≤ n → cond b (max x (greatest_below xs (suc n))) (greatest_below xs (suc n)) ≤ n
    go true e h = let low : x < suc n = ltb-true x (suc n) e in omega arith
    go false e h = h

pub greatest_below-zero : (xs : List ℕ) → greatest_below xs 0 ≡ 0
greatest_below-zero [] = refl
greatest_below-zero (x ∷ xs) = rw (le-ltb x 0 (omega arith)) (greatest_below-zero xs)

-- The greatest below n + 1 is n where n is in the list, else the greatest below n.
pub greatest_below-suc : (xs : List ℕ) (n : ℕ) → greatest_below xs (suc n) ≡ cond (is_in n xs) n (greatest_below xs n)
greatest_below-suc [] zero = refl
greatest_below-suc [] (suc n) = refl
greatest_below-suc (x ∷ xs) n = go (cases_eq n x) (is_in n xs) refl (greatest_below-suc xs n)
  where
    bound : greatest_below xs (suc n) ≤ n
    bound = greatest_below_bound xs n

    go : (n ≡ x) ⊎ (n ≡ x → ⊥) → (b : Bool) → is_in n xs ≡ b → greatest_below xs (suc n) ≡ cond (is_in n xs) n (greatest_below xs n) →
        cond (nat_lt x (suc n)) (max x (greatest_below xs (suc n))) (greatest_below xs (suc n))
        ≡ cond (nat_eq n x || is_in n xs) n (cond (nat_lt x n) (max x (greatest_below xs n)) (greatest_below xs n))
    go (inl e) b t h = rw (eq-eqb n x e, lt-ltb x (suc n) (omega arith)) (omega (arith, bound))
    go (inr ne) true t h = rw (ne_eqb n x ne, t) (go_in (cases_lt x (suc n)) (h ∙ rw t refl))
      where
        go_in : (x < suc n) ⊎ (suc n ≤ x) → greatest_below xs (suc n) ≡ n → cond (nat_lt x (suc n)) (max x (greatest_below xs (suc n))) (greatest_below xs (suc n)) ≡ n
        go_in (inl low) g = rw (lt-ltb x (suc n) low, g) (omega arith)
        go_in (inr high) g = rw (le-ltb x (suc n) high) g
    go (inr ne) false t h = rw (ne_eqb n x ne, t) (go_out (cases_lt x n) (h ∙ rw t refl))
      where
        go_out : (x < n) ⊎ (n ≤ x) → greatest_below xs (suc n) ≡ greatest_below xs n →
            cond (nat_lt x (suc n)) (max x (greatest_below xs (suc n))) (greatest_below xs (suc n)) ≡ cond (nat_lt x n) (max x (greatest_below xs n)) (greatest_below xs n)
        go_out (inl low) g = rw (lt-ltb x (suc n) (omega arith), lt-ltb x n low, g) refl
        go_out (inr high) g = rw (le-ltb x (suc n) (omega arith), le-ltb x n high) g

above_at : (n : ℕ) (xs : List ℕ) (k d : ℕ) → AreAbove n xs → k < length xs → n < get_or xs k d
above_at n [] k d h low = absurd (omega arith)
above_at n (x ∷ xs) zero d h low = h.0
above_at n (x ∷ xs) (suc k) d h low = above_at n xs k d h.1 (omega arith)

pub ascending_order : (xs : List ℕ) → IsAscending xs → IsNonDecreasingBy (λ y. y) xs
ascending_order [] s i j d le low = absurd (omega arith)
ascending_order (x ∷ xs) s zero zero d le low = omega arith
ascending_order (x ∷ xs) s zero (suc j) d le low = let h : x < get_or xs j d = above_at x xs j d s.0 (omega arith) in omega arith
ascending_order (x ∷ xs) s (suc i) zero d le low = absurd (omega arith)
ascending_order (x ∷ xs) s (suc i) (suc j) d le low = ascending_order xs s.1 i j d (omega arith) (omega arith)

greatest_below_none : (xs : List ℕ) (n : ℕ) → ((k : ℕ) → k < length xs → n ≤ get_or xs k 0) → greatest_below xs n ≡ 0
greatest_below_none [] n h = refl
greatest_below_none (x ∷ xs) n h = let high : n ≤ x = h 0 (omega arith) in
    rw (le-ltb x n high) (greatest_below_none xs n (λ k low. h (suc k) (omega arith)))

-- In an ascending list whose first i elements are below n, and the others not, the greatest below n is the i-th.
pub greatest_below-point : (xs : List ℕ) (n i : ℕ) → IsAscending xs → i ≤ length xs →
    ((k : ℕ) → k < i → get_or xs k 0 < n) → ((k : ℕ) → i ≤ k → k < length xs → n ≤ get_or xs k 0) →
    greatest_below xs n ≡ cond (nat_eq i 0) 0 (get_or xs (i - 1) 0)
greatest_below-point xs n zero s low under over = greatest_below_none xs n (λ k h. over k (omega arith) h)
greatest_below-point [] n (suc i) s low under over = absurd (omega arith)
greatest_below-point (x ∷ xs) n (suc i) s low under over =
    let first : x < n = under 0 (omega arith) in
    rw (lt-ltb x n first, ne_eqb (suc i) 0 (λ z. omega arith)) (go i low (greatest_below-point xs n i s.1 (omega arith) (λ k h. under (suc k) (omega arith)) (λ k h g. over (suc k) (omega arith) (omega arith))))
  where
    go : (i : ℕ) → suc i ≤ length (x ∷ xs) → greatest_below xs n ≡ cond (nat_eq i 0) 0 (get_or xs (i - 1) 0) → max x (greatest_below xs n) ≡ get_or (x ∷ xs) (suc i - 1) 0
    go zero l e = rw e (omega arith)
    go (suc i) l e = let p : x < get_or xs i 0 = above_at x xs i 0 s.0 (omega arith) in
        let q : suc i - 1 ≡ i = omega arith in let r : suc (suc i) - 1 ≡ suc i = omega arith in
        let f : greatest_below xs n ≡ get_or xs i 0 = e ∙ cond-false (nat_eq (suc i) 0) 0 (get_or xs (suc i - 1) 0) (ne_eqb (suc i) 0 (λ z. omega arith)) ∙ ap (λ m. get_or xs m 0) q in
        rw (r, f) (omega arith)

-- The same from what a search by halves answers.
pub greatest_below-search : (xs : List ℕ) (n i : ℕ) → IsAscending xs → i ≤ length xs →
    IsPartitionPoint (λ y. nat_lt y n ≡ true) (λ y. nat_lt y n ≡ false) xs i →
    greatest_below xs n ≡ cond (nat_eq i 0) 0 (get_or xs (i - 1) 0)
greatest_below-search xs n i s low point = greatest_below-point xs n i s low
    (λ k h. ltb-true (get_or xs k 0) n (point.0 k 0 (omega arith) h)) (λ k h g. ltb-false (get_or xs k 0) n (point.1 k 0 h g))

-- In an ascending list whose last element is below n, that is the greatest below n.
pub greatest_below-last : (xs : List ℕ) (n i last : ℕ) → IsAscending xs → suc i ≡ length xs → last ≡ get_or xs i last → last < n → last ≡ greatest_below xs n
greatest_below-last xs n i last s count at low =
    let e : get_or xs i 0 ≡ last = get_or_default xs i 0 last (omega arith) ∙ sym at in
    let q : suc i - 1 ≡ i = omega arith in
    sym (greatest_below-point xs n (suc i) s (omega arith)
    (λ k l. let le : get_or xs k 0 ≤ get_or xs i 0 = ascending_order xs s k i 0 (omega arith) (omega arith) in omega arith)
    (λ k h g. absurd (omega arith))
    ∙ cond-false (nat_eq (suc i) 0) 0 (get_or xs (suc i - 1) 0) (ne_eqb (suc i) 0 (λ z. omega arith))
    ∙ ap (λ m. get_or xs m 0) q
    ∙ e)
