-- Of an ascending list, the part above a number.
use Rattle.std.proofs.Common.{◌≡◌, ℕ, zero, suc, ◌<◌, ◌≤◌, ◌+◌, ◌-◌, inl, inr, true, false, List, [], ◌∷◌, filter, length, refl, sym, ◌∙◌, ap, subst, nat_lt, arith, lt-ltb, ltb-true, le-ltb}
use Rattle.std.proofs.lemmas.Bool.{cond-true, cond-false, cases_eq}
use Rattle.sv_world.specs.Control.{is_in}
use Rattle.sv_world.specs.Faults.{is_ascending}
use Rattle.sv_world.proofs.Members.{is_in-head, is_in-tail, is_in-cons_cases, is_in-filter, is_in-filter_parts}
use Rattle.sv_world.proofs.Ascending.{ascending-tail, ascending-head, ascending-cons, ascending-filter, ascending_same}

abbrev pub above : ℕ → List ℕ → List ℕ
above n xs = filter (λ j. nat_lt n j) xs

pub above-in : (n j : ℕ) (xs : List ℕ) → is_in j xs ≡ true → n < j → is_in j (above n xs) ≡ true
above-in n j xs h l = is_in-filter (λ (k : ℕ). nat_lt n k) j xs h (lt-ltb n j l)

pub above-parts : (n j : ℕ) (xs : List ℕ) → is_in j (above n xs) ≡ true → (is_in j xs ≡ true) × (n < j)
above-parts n j xs h = let p = is_in-filter_parts (λ (k : ℕ). nat_lt n k) j xs h in (p.0, ltb-true n j p.1)

pub above-ascending : (n : ℕ) (xs : List ℕ) → is_ascending xs ≡ true → is_ascending (above n xs) ≡ true
above-ascending n xs h = ascending-filter (λ (k : ℕ). nat_lt n k) xs h

-- One lower, it has that number too where the list has it.
pub above-hit : (n : ℕ) (xs : List ℕ) → is_ascending xs ≡ true → is_in (suc n) xs ≡ true → above n xs ≡ suc n ∷ above (suc n) xs
above-hit n xs h m =
    ascending_same (above n xs) (suc n ∷ above (suc n) xs) (above-ascending n xs h)
    (ascending-cons (suc n) (above (suc n) xs) (λ j g. (above-parts (suc n) j xs g).1) (above-ascending (suc n) xs h))
    (λ j g.
    let p = above-parts n j xs g in
    let low : n < j = p.1 in
    elim (cases_eq j (suc n)) [
      | inl e ↦ subst (λ (k : ℕ). is_in j (k ∷ above (suc n) xs) ≡ true) e (is_in-head j (above (suc n) xs))
      | inr ne ↦ is_in-tail j (suc n) (above (suc n) xs) (above-in (suc n) j xs p.0 (omega arith))
    ])
    (λ j g. elim (is_in-cons_cases j (suc n) (above (suc n) xs) g) [
      | inl e ↦ above-in n j xs (subst (λ (k : ℕ). is_in k xs ≡ true) (sym e) m) (omega arith)
      | inr r ↦ (let p = above-parts (suc n) j xs r in let low : suc n < j = p.1 in above-in n j xs p.0 (omega arith))
    ])

pub above-miss : (n : ℕ) (xs : List ℕ) → is_ascending xs ≡ true → is_in (suc n) xs ≡ false → above n xs ≡ above (suc n) xs
above-miss n xs h m =
    ascending_same (above n xs) (above (suc n) xs) (above-ascending n xs h) (above-ascending (suc n) xs h)
    (λ j g.
    let p = above-parts n j xs g in
    let low : n < j = p.1 in
    elim (cases_eq j (suc n)) [
      | inl e ↦ (let q : is_in (suc n) xs ≡ true = subst (λ (k : ℕ). is_in k xs ≡ true) e p.0 in cc)
      | inr ne ↦ above-in (suc n) j xs p.0 (omega arith)
    ])
    (λ j g. let p = above-parts (suc n) j xs g in let low : suc n < j = p.1 in above-in n j xs p.0 (omega arith))

pub above-none : (n : ℕ) (xs : List ℕ) → ((j : ℕ) → is_in j xs ≡ true → j ≤ n) → above n xs ≡ []
above-none n [] h = refl
above-none n (x ∷ xs) h =
    cond-false (nat_lt n x) (x ∷ above n xs) (above n xs) (le-ltb n x (h x (is_in-head x xs))) ∙ above-none n xs (λ j m. h j (is_in-tail j x xs m))

pub above-all : (n : ℕ) (xs : List ℕ) → ((j : ℕ) → is_in j xs ≡ true → n < j) → above n xs ≡ xs
above-all n [] h = refl
above-all n (x ∷ xs) h =
    cond-true (nat_lt n x) (x ∷ above n xs) (above n xs) (lt-ltb n x (h x (is_in-head x xs))) ∙ ap (λ (ys : List ℕ). x ∷ ys) (above-all n xs (λ j m. h j (is_in-tail j x xs m)))

-- Between two numbers an ascending list has no more than there are.
pub ascending-few : (n m : ℕ) (xs : List ℕ) → is_ascending xs ≡ true → ((j : ℕ) → is_in j xs ≡ true → (n < j) × (j ≤ m)) → n ≤ m → length xs + n ≤ m
ascending-few n m [] h within le = omega arith
ascending-few n m (x ∷ xs) h within le =
    let b = within x (is_in-head x xs) in
    let low : n < x = b.0 in
    let few : length xs + x ≤ m = ascending-few x m xs (ascending-tail x xs h) (λ j g. (ascending-head x xs h j g, (within j (is_in-tail j x xs g)).1)) b.1 in
    omega arith

-- The same by the number itself.
pub above-taken : (p : ℕ) (xs : List ℕ) → is_ascending xs ≡ true → 0 < p → is_in p xs ≡ true → above (p - 1) xs ≡ p ∷ above p xs
above-taken zero xs h low m = absurd (omega arith)
above-taken (suc n) xs h low m = ap (λ (k : ℕ). above k xs) (let e : suc n - 1 ≡ n = omega arith in e) ∙ above-hit n xs h m

pub above-left : (p : ℕ) (xs : List ℕ) → is_ascending xs ≡ true → 0 < p → is_in p xs ≡ false → above (p - 1) xs ≡ above p xs
above-left zero xs h low m = absurd (omega arith)
above-left (suc n) xs h low m = ap (λ (k : ℕ). above k xs) (let e : suc n - 1 ≡ n = omega arith in e) ∙ above-miss n xs h m
