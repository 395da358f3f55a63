-- Ascending lists: each is determined by its members.
use Rattle.std.proofs.Common.{◌≡◌, ℕ, ◌<◌, ◌≤◌, Bool, true, inl, inr, List, [], ◌∷◌, ◌++◌, filter, length, refl, sym, ap₂, subst, nat_lt, arith, lt-ltb, ltb-true}
use Rattle.std.proofs.lemmas.Bool.{cond_both, and_parts, and_from}
use Rattle.sv_world.specs.Control.{is_in}
use Rattle.sv_world.specs.Faults.{is_ascending}
use Rattle.sv_world.proofs.Members.{is_in-head, is_in-tail, is_in-cons_cases, is_in-append_cases, is_in-one, is_in-filter_parts}

pub ascending-tail : (x : ℕ) (xs : List ℕ) → is_ascending (x ∷ xs) ≡ true → is_ascending xs ≡ true
ascending-tail x [] h = refl
ascending-tail x (y ∷ ys) h = (and_parts (nat_lt x y) (is_ascending (y ∷ ys)) h).1

pub ascending-head : (x : ℕ) (xs : List ℕ) → is_ascending (x ∷ xs) ≡ true → (j : ℕ) → is_in j xs ≡ true → x < j
ascending-head x [] h j m = cc
ascending-head x (y ∷ ys) h j m =
    let parts = and_parts (nat_lt x y) (is_ascending (y ∷ ys)) h in
    let first : x < y = ltb-true x y parts.0 in
    elim (is_in-cons_cases j y ys m) [
      | inl e ↦ omega arith
      | inr r ↦ (let later : y < j = ascending-head y ys parts.1 j r in omega arith)
    ]

pub ascending-cons : (x : ℕ) (xs : List ℕ) → ((j : ℕ) → is_in j xs ≡ true → x < j) → is_ascending xs ≡ true → is_ascending (x ∷ xs) ≡ true
ascending-cons x [] low h = refl
ascending-cons x (y ∷ ys) low h = and_from (nat_lt x y) (is_ascending (y ∷ ys)) (lt-ltb x y (low y (is_in-head y ys))) h

pub ascending-push : (xs : List ℕ) (y : ℕ) → is_ascending xs ≡ true → ((j : ℕ) → is_in j xs ≡ true → j < y) → is_ascending (xs ++ y ∷ []) ≡ true
ascending-push [] y h low = refl
ascending-push (x ∷ xs) y h low =
    ascending-cons x (xs ++ y ∷ [])
    (λ j m. elim (is_in-append_cases j xs (y ∷ []) m) [
      | inl l ↦ ascending-head x xs h j l
      | inr r ↦ (let e : j ≡ y = is_in-one j y r in let l : x < y = low x (is_in-head x xs) in omega arith)
    ])
    (ascending-push xs y (ascending-tail x xs h) (λ j m. low j (is_in-tail j x xs m)))

pub ascending-filter : (p : ℕ → Bool) (xs : List ℕ) → is_ascending xs ≡ true → is_ascending (filter p xs) ≡ true
ascending-filter p [] h = refl
ascending-filter p (x ∷ xs) h =
    let rest : is_ascending (filter p xs) ≡ true = ascending-filter p xs (ascending-tail x xs h) in
    cond_both (p x) (x ∷ filter p xs) (filter p xs) (λ (ys : List ℕ). is_ascending ys ≡ true)
    (λ e. ascending-cons x (filter p xs) (λ j m. ascending-head x xs h j (is_in-filter_parts p j xs m).0) rest)
    (λ e. rest)

-- Of an ascending list with a first number x, the members of its rest are in ys where all its members are in x ∷ ys.
rest_into : (x : ℕ) (xs ys : List ℕ) → is_ascending (x ∷ xs) ≡ true → ((j : ℕ) → is_in j (x ∷ xs) ≡ true → is_in j (x ∷ ys) ≡ true) → (j : ℕ) → is_in j xs ≡ true → is_in j ys ≡ true
rest_into x xs ys h into j m =
    elim (is_in-cons_cases j x ys (into j (is_in-tail j x xs m))) [
      | inl e ↦ (let l : x < j = ascending-head x xs h j m in absurd (omega arith))
      | inr r ↦ r
    ]

pub ascending_same : (xs ys : List ℕ) → is_ascending xs ≡ true → is_ascending ys ≡ true →
    ((j : ℕ) → is_in j xs ≡ true → is_in j ys ≡ true) → ((j : ℕ) → is_in j ys ≡ true → is_in j xs ≡ true) → xs ≡ ys
ascending_same [] [] h g into from = refl
ascending_same [] (y ∷ ys) h g into from = (let m : is_in y [] ≡ true = from y (is_in-head y ys) in cc)
ascending_same (x ∷ xs) [] h g into from = (let m : is_in x [] ≡ true = into x (is_in-head x xs) in cc)
ascending_same (x ∷ xs) (y ∷ ys) h g into from =
    let e : x ≡ y = elim (is_in-cons_cases x y ys (into x (is_in-head x xs))) [
      | inl e ↦ e
      | inr r ↦ elim (is_in-cons_cases y x xs (from y (is_in-head y ys))) [
        | inl e ↦ sym e
        | inr s ↦ (let a : y < x = ascending-head y ys g x r in let b : x < y = ascending-head x xs h y s in absurd (omega arith))
      ]
    ] in
    let g' : is_ascending (x ∷ ys) ≡ true = subst (λ (z : ℕ). is_ascending (z ∷ ys) ≡ true) (sym e) g in
    let into' : (j : ℕ) → is_in j (x ∷ xs) ≡ true → is_in j (x ∷ ys) ≡ true = λ j m. subst (λ (z : ℕ). is_in j (z ∷ ys) ≡ true) (sym e) (into j m) in
    let from' : (j : ℕ) → is_in j (x ∷ ys) ≡ true → is_in j (x ∷ xs) ≡ true = λ j m. from j (subst (λ (z : ℕ). is_in j (z ∷ ys) ≡ true) e m) in
    ap₂ (λ (z : ℕ) (zs : List ℕ). z ∷ zs) e
    (ascending_same xs ys (ascending-tail x xs h) (ascending-tail x ys g') (rest_into x xs ys h into') (rest_into x ys xs g' from'))

pub ascending_shorter : (xs ys : List ℕ) → is_ascending xs ≡ true → is_ascending ys ≡ true →
    ((j : ℕ) → is_in j xs ≡ true → is_in j ys ≡ true) → length xs ≤ length ys
ascending_shorter [] ys h g into = omega arith
ascending_shorter (x ∷ xs) [] h g into = (let m : is_in x [] ≡ true = into x (is_in-head x xs) in cc)
ascending_shorter (x ∷ xs) (y ∷ ys) h g into =
    elim (is_in-cons_cases x y ys (into x (is_in-head x xs))) [
      | inl e ↦
          (let into' : (j : ℕ) → is_in j (x ∷ xs) ≡ true → is_in j (x ∷ ys) ≡ true = λ j m. subst (λ (z : ℕ). is_in j (z ∷ ys) ≡ true) (sym e) (into j m) in
          let less : length xs ≤ length ys = ascending_shorter xs ys (ascending-tail x xs h) (ascending-tail y ys g) (rest_into x xs ys h into') in
          omega arith)
      | inr r ↦
          (let low : y < x = ascending-head y ys g x r in
          let less : length (x ∷ xs) ≤ length ys = ascending_shorter (x ∷ xs) ys h (ascending-tail y ys g)
          (λ j m. elim (is_in-cons_cases j y ys (into j m)) [
            | inl e ↦ elim (is_in-cons_cases j x xs m) [
              | inl s ↦ absurd (omega arith)
              | inr s ↦ (let later : x < j = ascending-head x xs h j s in absurd (omega arith))
            ]
            | inr s ↦ s
          ]) in
          omega arith)
    ]
