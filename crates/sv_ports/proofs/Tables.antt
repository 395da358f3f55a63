-- Things under ascending numbers: where one is, what changes with it, and what is left without it.
use Rattle.std.proofs.Common.{◌≡◌, ℕ, zero, suc, ◌-◌, ◌<◌, ◌≤◌, inl, inr, Bool, true, false, ◌||◌, not, cond, All, List, [], ◌∷◌, ◌++◌, length, get_or, set, slice_get, nat_eq, nat_lt, Option, Some, None, refl, sym, ◌∙◌, ap, subst, arith, ltb-true, ltb-false, eq-eqb, ne_eqb}
use Rattle.std.specs.List.{remove}
use Rattle.std.specs.List.Sorted.{IsPartitionPoint, IsNonDecreasingBy}
use Rattle.std.proofs.lemmas.Bool.{cond_both, cond-true, cond-false, cases_lt, cases_eq, false_from_ne_true, or_parts}
use Rattle.std.proofs.lemmas.List.Elements.{All-filter}
use Rattle.sv_ports.specs.declared.numbered.NumberedPlace.{NumberedPlace}
use Rattle.sv_ports.specs.Numbered.{IsByNumber, IsAbove, has_number, item_of, with_item, without}

module _ {T : Type 0} where
  -- ---- By place

  later : (xs : List (NumberedPlace T)) → IsByNumber xs → (i k : ℕ) (d : NumberedPlace T) → i < k → k < length xs → (get_or xs i d).number < (get_or xs k d).number
  later [] up i k d less low = absurd (omega arith)
  later (x ∷ xs) up i zero d less low = absurd (omega arith)
  later (x ∷ xs) up zero (suc k) d less low = up.0 k d (omega arith)
  later (x ∷ xs) up (suc i) (suc k) d less low = later xs up.1 i k d (omega arith) (omega arith)

  pub in-order : (xs : List (NumberedPlace T)) → IsByNumber xs → IsNonDecreasingBy (λ (x : NumberedPlace T). x.number) xs
  in-order xs up i k d le low = elim (cases_lt i k) [
    | inl less ↦ (let l : (get_or xs i d).number < (get_or xs k d).number = later xs up i k d less low in omega arith)
    | inr more ↦ (let same : i ≡ k = omega arith in subst (λ (j : ℕ). (get_or xs i d).number ≤ (get_or xs j d).number) same (omega arith))
  ]

  place-of : (n : ℕ) (xs : List (NumberedPlace T)) (d : NumberedPlace T) → has_number n xs ≡ true → (k : ℕ) × ((k < length xs) × ((get_or xs k d).number ≡ n))
  place-of n [] d m = cc
  place-of n (x ∷ xs) d m = elim (cases_eq n x.number) [
    | inl e ↦ (0, (omega arith, sym e))
    | inr other ↦ (let p = place-of n xs d (sym (ap (λ (b : Bool). b || has_number n xs) (ne_eqb n x.number other)) ∙ m) in let low : p.0 < length xs = p.1.0 in (suc p.0, (omega arith, p.1.1)))
  ]

  -- Where those below it end, a number is or it is nowhere.
  pub point-none : (n : ℕ) (xs : List (NumberedPlace T)) (i : ℕ) (d : NumberedPlace T) → IsByNumber xs → IsPartitionPoint (λ (x : NumberedPlace T). nat_lt x.number n ≡ true) (λ (x : NumberedPlace T). nat_lt x.number n ≡ false) xs i
      → (i < length xs → (get_or xs i d).number ≡ n → ⊥) → has_number n xs ≡ false
  point-none n xs i d up point unlike = false_from_ne_true (has_number n xs) never
    where
      never : has_number n xs ≡ true → ⊥
      never m =
          let place = place-of n xs d m in
          let k = place.0 in
          let low : k < length xs = place.1.0 in
          let is : (get_or xs k d).number ≡ n = place.1.1 in
          elim (cases_lt k i) [
            | inl below ↦ (let less : (get_or xs k d).number < n = ltb-true (get_or xs k d).number n (point.0 k d (omega arith) below) in omega (arith, less, is))
            | inr more ↦ elim (cases_eq k i) [
              | inl same ↦ unlike (omega (arith, same, low)) (subst (λ (j : ℕ). (get_or xs j d).number ≡ n) same is)
              | inr other ↦ (let before : (get_or xs i d).number < (get_or xs k d).number = later xs up i k d (omega arith) low in
                  let over : n ≤ (get_or xs i d).number = ltb-false (get_or xs i d).number n (point.1 i d (omega arith) (omega (arith, more, other, low))) in
                  omega (arith, before, over, is))
            ]
          ]

  -- Nothing lies below the number of the place at hand, further on.
  above : (n : ℕ) (x : NumberedPlace T) (xs : List (NumberedPlace T)) (i : ℕ) (d : NumberedPlace T) → IsByNumber (x ∷ xs) → i < length xs → (get_or xs i d).number ≡ n → nat_eq n x.number ≡ false
  above n x xs i d up low is = let less : x.number < (get_or xs i d).number = up.0 i d low in ne_eqb n x.number (λ same. omega (arith, less, is, same))

  -- ---- What lies there

  pub item-none : (n : ℕ) (xs : List (NumberedPlace T)) → has_number n xs ≡ false → item_of n xs ≡ None
  item-none n [] out = refl
  item-none n (x ∷ xs) out = let parts = or_parts (nat_eq n x.number) (has_number n xs) out in cond-false (nat_eq n x.number) x.item (item_of n xs) parts.0 ∙ item-none n xs parts.1

  pub item-at : (n : ℕ) (xs : List (NumberedPlace T)) (i : ℕ) (d : NumberedPlace T) → IsByNumber xs → i < length xs → (get_or xs i d).number ≡ n → item_of n xs ≡ (get_or xs i d).item
  item-at n [] i d up low is = absurd (omega arith)
  item-at n (x ∷ xs) zero d up low is = cond-true (nat_eq n x.number) x.item (item_of n xs) (eq-eqb n x.number (sym is))
  item-at n (x ∷ xs) (suc i) d up low is =
      cond-false (nat_eq n x.number) x.item (item_of n xs) (above n x xs i d up (omega arith) is) ∙ item-at n xs i d up.1 (omega arith) is

  -- ---- Another thing in a place

  changed : ℕ → Option T → NumberedPlace T → NumberedPlace T
  changed n o p = cond (nat_eq n p.number) (record p { item = o }) p

  pub with-none : (n : ℕ) (o : Option T) (xs : List (NumberedPlace T)) → has_number n xs ≡ false → with_item n o xs ≡ xs
  with-none n o [] out = refl
  with-none n o (x ∷ xs) out =
      let parts = or_parts (nat_eq n x.number) (has_number n xs) out in
      ap (λ (p : NumberedPlace T). p ∷ with_item n o xs) (cond-false (nat_eq n x.number) (record x { item = o }) x parts.0)
      ∙ ap (λ (ps : List (NumberedPlace T)). x ∷ ps) (with-none n o xs parts.1)

  none-behind : (n : ℕ) (x : NumberedPlace T) (xs : List (NumberedPlace T)) → All (λ (q : NumberedPlace T). x.number < q.number) xs → x.number ≡ n → has_number n xs ≡ false
  none-behind n x xs up is = false_from_ne_true (has_number n xs) (λ m.
      let place = place-of n xs x m in let low : place.0 < length xs = place.1.0 in let less : x.number < (get_or xs place.0 x).number = up place.0 x low in
      let same : (get_or xs place.0 x).number ≡ n = place.1.1 in omega (arith, less, same, is))

  pub with-at : (n : ℕ) (o : Option T) (xs : List (NumberedPlace T)) (i : ℕ) (d : NumberedPlace T) → IsByNumber xs → i < length xs → (get_or xs i d).number ≡ n
      → set xs i (record (get_or xs i d) { item = o }) ≡ with_item n o xs
  with-at n o [] i d up low is = absurd (omega arith)
  with-at n o (x ∷ xs) zero d up low is =
      sym (ap (λ (p : NumberedPlace T). p ∷ with_item n o xs) (cond-true (nat_eq n x.number) (record x { item = o }) x (eq-eqb n x.number (sym is)))
      ∙ ap (λ (ps : List (NumberedPlace T)). record x { item = o } ∷ ps) (with-none n o xs (none-behind n x xs up.0 is)))
  with-at n o (x ∷ xs) (suc i) d up low is =
      ap (λ (ps : List (NumberedPlace T)). x ∷ ps) (with-at n o xs i d up.1 (omega arith) is)
      ∙ sym (ap (λ (p : NumberedPlace T). p ∷ with_item n o xs) (cond-false (nat_eq n x.number) (record x { item = o }) x (above n x xs i d up (omega arith) is)))

  number-kept : (n : ℕ) (o : Option T) (x : NumberedPlace T) → (cond (nat_eq n x.number) (record x { item = o }) x).number ≡ x.number
  number-kept n o x = cond_both (nat_eq n x.number) (record x { item = o }) x (λ (p : NumberedPlace T). p.number ≡ x.number) (λ _. refl) (λ _. refl)

  all-with : (P : ℕ → Type 0) (n : ℕ) (o : Option T) (xs : List (NumberedPlace T)) → All (λ (x : NumberedPlace T). P x.number) xs → All (λ (x : NumberedPlace T). P x.number) (with_item n o xs)
  all-with P n o [] all k d low = absurd (omega arith)
  all-with P n o (x ∷ xs) all zero d low = subst P (sym (number-kept n o x)) (all 0 d (omega arith))
  all-with P n o (x ∷ xs) all (suc k) d low = all-with P n o xs (λ j e less. all (suc j) e (omega (arith, less))) k d (omega (arith, low))

  pub with-ascending : (n : ℕ) (o : Option T) (xs : List (NumberedPlace T)) → IsByNumber xs → IsByNumber (with_item n o xs)
  with-ascending n o [] up = tt
  with-ascending n o (x ∷ xs) up = (
    subst (λ (m : ℕ). All (λ (q : NumberedPlace T). m < q.number) (with_item n o xs)) (sym (number-kept n o x)) (all-with (λ (m : ℕ). x.number < m) n o xs up.0),
    with-ascending n o xs up.1,
  )

  -- ---- All but one

  pub without-none : (n : ℕ) (xs : List (NumberedPlace T)) → has_number n xs ≡ false → without n xs ≡ xs
  without-none n [] out = refl
  without-none n (x ∷ xs) out =
      let parts = or_parts (nat_eq n x.number) (has_number n xs) out in
      ap (λ (b : Bool). cond (not b) (x ∷ without n xs) (without n xs)) parts.0 ∙ ap (λ (ps : List (NumberedPlace T)). x ∷ ps) (without-none n xs parts.1)

  pub without-at : (n : ℕ) (xs : List (NumberedPlace T)) (i : ℕ) (d : NumberedPlace T) → IsByNumber xs → i < length xs → (get_or xs i d).number ≡ n → remove xs i ≡ without n xs
  without-at n [] i d up low is = absurd (omega arith)
  without-at n (x ∷ xs) zero d up low is =
      sym (ap (λ (b : Bool). cond (not b) (x ∷ without n xs) (without n xs)) (eq-eqb n x.number (sym is)) ∙ without-none n xs (none-behind n x xs up.0 is))
  without-at n (x ∷ xs) (suc i) d up low is =
      ap (λ (ps : List (NumberedPlace T)). x ∷ ps) (without-at n xs i d up.1 (omega arith) is)
      ∙ sym (ap (λ (b : Bool). cond (not b) (x ∷ without n xs) (without n xs)) (above n x xs i d up (omega arith) is))

  pub without-ascending : (n : ℕ) (xs : List (NumberedPlace T)) → IsByNumber xs → IsByNumber (without n xs)
  without-ascending n [] up = tt
  without-ascending n (x ∷ xs) up =
      cond_both (not (nat_eq n x.number)) (x ∷ without n xs) (without n xs) IsByNumber
      (λ _. (All-filter (λ (p : NumberedPlace T). not (nat_eq n p.number)) (λ (q : NumberedPlace T). x.number < q.number) xs up.0, without-ascending n xs up.1))
      (λ _. without-ascending n xs up.1)

  -- ---- One more, above all

  one-more : (P : NumberedPlace T → Type 0) (xs : List (NumberedPlace T)) (x : NumberedPlace T) → All P xs → P x → All P (xs ++ x ∷ [])
  one-more P [] x all one zero d low = one
  one-more P [] x all one (suc k) d low = absurd (omega arith)
  one-more P (y ∷ ys) x all one zero d low = all 0 d (omega arith)
  one-more P (y ∷ ys) x all one (suc k) d low = one-more P ys x (λ j e less. all (suc j) e (omega (arith, less))) one k d (omega (arith, low))

  pub push-ascending : (xs : List (NumberedPlace T)) (x : NumberedPlace T) → IsByNumber xs → IsAbove x.number xs → IsByNumber (xs ++ x ∷ [])
  push-ascending [] x up over = ((λ k d low. absurd (omega arith)), tt)
  push-ascending (y ∷ ys) x up over = (
    one-more (λ (q : NumberedPlace T). y.number < q.number) ys x up.0 (over 0 y (omega arith)),
    push-ascending ys x up.1 (λ k d low. over (suc k) d (omega (arith, low))),
  )

  -- Who is above the last is above all.
  pub above-last : (n : ℕ) (xs : List (NumberedPlace T)) (i : ℕ) (l : NumberedPlace T) → IsByNumber xs → i ≡ length xs - 1 → slice_get xs i ≡ Some l → l.number < n → IsAbove n xs
  above-last n [] i l up last is less k d low = absurd (omega arith)
  above-last n (x ∷ xs) zero l up last is less zero d low = let same : x ≡ l = cc in subst (λ (p : NumberedPlace T). p.number < n) (sym same) less
  above-last n (x ∷ xs) zero l up last is less (suc k) d low = absurd (omega arith)
  above-last n (x ∷ xs) (suc i) l up last is less zero d low =
      let rest : (get_or xs 0 d).number < n = above-last n xs i l up.1 (omega arith) is less 0 d (omega arith) in
      let first : x.number < (get_or xs 0 d).number = up.0 0 d (omega arith) in omega (arith, rest, first)
  above-last n (x ∷ xs) (suc i) l up last is less (suc k) d low = above-last n xs i l up.1 (omega arith) is less k d (omega arith)

  pub last-below : (n : ℕ) (xs : List (NumberedPlace T)) (i : ℕ) (l : NumberedPlace T) → IsAbove n xs → slice_get xs i ≡ Some l → l.number < n
  last-below n [] i l over is = cc
  last-below n (x ∷ xs) zero l over is = let same : x ≡ l = cc in subst (λ (p : NumberedPlace T). p.number < n) same (over 0 x (omega arith))
  last-below n (x ∷ xs) (suc i) l over is = last-below n xs i l (λ k d low. over (suc k) d (omega (arith, low))) is
