-- Ascending lists by place, and with one number more.
use Rattle.std.proofs.Common.{All, Result, Ok, Err, cond, is_ok, insert, nat_cmp, ◌-◌, Option, Some, None}
use Rattle.std.specs.Prelude.{IfNone, OnOk, OnErr, option_to_list}
use Rattle.std.proofs.lemmas.Bool.{cond_both}
use Rattle.std.proofs.lemmas.List.{get_or_default}
use Rattle.std.proofs.lemmas.List.Sorted.{searched}
use Rattle.std.specs.List.Sorted.{IsBinarySearchResult}
use Rattle.std.proofs.Common.{◌≡◌, ℕ, zero, suc, ◌<◌, ◌≤◌, inl, inr, Bool, true, false, ◌||◌, List, [], ◌∷◌, ◌++◌, length, take, drop, get_or, refl, sym, ◌∙◌, ap, subst, nat_eq, arith, eq-eqb, ne_eqb}
use Rattle.std.proofs.lemmas.Bool.{or_left, cases_eq}
use Rattle.sv_world.specs.Control.{is_in}
use Rattle.sv_world.specs.Faults.{is_ascending}
use Rattle.sv_world.proofs.Members.{is_in-head, is_in-tail, is_in-cons_cases, is_in-append_left}
use Rattle.sv_world.proofs.Ascending.{ascending-tail, ascending-head, ascending-cons}

pub is_in-get : (xs : List ℕ) (k : ℕ) → k < length xs → is_in (get_or xs k 0) xs ≡ true
is_in-get [] k l = absurd (omega arith)
is_in-get (x ∷ xs) zero l = is_in-head x xs
is_in-get (x ∷ xs) (suc k) l = is_in-tail (get_or xs k 0) x xs (is_in-get xs k (omega arith))

pub is_in-place : (j : ℕ) (xs : List ℕ) → is_in j xs ≡ true → (k : ℕ) × ((k < length xs) × (get_or xs k 0 ≡ j))
is_in-place j [] h = cc
is_in-place j (x ∷ xs) h =
    elim (is_in-cons_cases j x xs h) [
      | inl e ↦ (0, (omega arith, sym e))
      | inr r ↦ (let p = is_in-place j xs r in let l : p.0 < length xs = p.1.0 in (suc p.0, (omega arith, p.1.1)))
    ]

pub ascending-places : (xs : List ℕ) → is_ascending xs ≡ true → (i j : ℕ) → i ≤ j → j < length xs → get_or xs i 0 ≤ get_or xs j 0
ascending-places [] h i j le l = absurd (omega arith)
ascending-places (x ∷ xs) h zero zero le l = omega arith
ascending-places (x ∷ xs) h zero (suc j) le l =
    let low : x < get_or xs j 0 = ascending-head x xs h (get_or xs j 0) (is_in-get xs j (omega arith)) in omega arith
ascending-places (x ∷ xs) h (suc i) zero le l = absurd (omega arith)
ascending-places (x ∷ xs) h (suc i) (suc j) le l = ascending-places xs (ascending-tail x xs h) i j (omega arith) (omega arith)

pub ascending-front : (xs ys : List ℕ) → is_ascending (xs ++ ys) ≡ true → is_ascending xs ≡ true
ascending-front [] ys h = refl
ascending-front (x ∷ xs) ys h =
    ascending-cons x xs (λ j m. ascending-head x (xs ++ ys) h j (is_in-append_left j xs ys m)) (ascending-front xs ys (ascending-tail x (xs ++ ys) h))

pub or_swap : (a b c : Bool) → (a || (b || c)) ≡ (b || (a || c))
or_swap true true c = refl
or_swap true false c = refl
or_swap false true c = refl
or_swap false false c = refl

pub insert-members : (xs : List ℕ) (i x j : ℕ) → is_in j (take i xs ++ x ∷ drop i xs) ≡ is_in j (x ∷ xs)
insert-members xs zero x j = refl
insert-members [] (suc i) x j = refl
insert-members (y ∷ ys) (suc i) x j =
    ap (λ (b : Bool). nat_eq j y || b) (insert-members ys i x j) ∙ or_swap (nat_eq j y) (nat_eq j x) (is_in j ys)

pub insert-ascending : (xs : List ℕ) (i x : ℕ) → is_ascending xs ≡ true → i ≤ length xs → ((k : ℕ) → k < i → get_or xs k 0 < x) →
    ((k : ℕ) → i ≤ k → k < length xs → x < get_or xs k 0) → is_ascending (take i xs ++ x ∷ drop i xs) ≡ true
insert-ascending xs zero x h l below above =
    ascending-cons x xs (λ j m. let p = is_in-place j xs m in let low : x < get_or xs p.0 0 = above p.0 (omega arith) p.1.0 in subst (λ (n : ℕ). x < n) p.1.1 low) h
insert-ascending [] (suc i) x h l below above = absurd (omega arith)
insert-ascending (y ∷ ys) (suc i) x h l below above =
    ascending-cons y (take i ys ++ x ∷ drop i ys)
    (λ j m. elim (is_in-cons_cases j x ys (sym (insert-members ys i x j) ∙ m)) [
      | inl e ↦ (let low : y < x = below 0 (omega arith) in omega arith)
      | inr r ↦ ascending-head y ys h j r
    ])
    (insert-ascending ys i x (ascending-tail y ys h) (omega arith) (λ k b. below (suc k) (omega arith)) (λ k a b. above (suc k) (omega arith) (omega arith)))

pub is_in-known : (x : ℕ) (xs : List ℕ) → is_in x xs ≡ true → (j : ℕ) → is_in j xs ≡ is_in j (x ∷ xs)
is_in-known x xs h j =
    elim (cases_eq j x) [
      | inl e ↦ subst (λ (n : ℕ). is_in n xs ≡ true) (sym e) h ∙ sym (or_left (nat_eq j x) (is_in j xs) (eq-eqb j x e))
      | inr ne ↦ ap (λ (b : Bool). b || is_in j xs) (sym (ne_eqb j x ne))
    ]

-- A vector after an insertion that may have found no memory.
pub insert-result : {E V : Type 0} (r : Result (Unit {0}) E) (new' old : V) (items : V → List ℕ) (zs : List ℕ) → OnOk r (items new' ≡ zs) → OnErr r (new' ≡ old) →
    items new' ≡ cond (is_ok r) zs (items old)
insert-result (Ok x) new' old items zs ok err = ok
insert-result (Err e) new' old items zs ok err = ap items err

-- What a binary search in an ascending list says.
pub insert-searched : {E : Type 0} (xs zs ys : List ℕ) (x i : ℕ) (r : Result (Unit {0}) E) → is_ascending xs ≡ true → zs ≡ xs →
    IsBinarySearchResult (λ y. nat_cmp y x) zs (Err i) → ys ≡ cond (is_ok r) (insert xs i x) xs → is_ascending ys ≡ true
insert-searched xs zs ys x i r h same found is =
    let found' = subst (λ (ws : List ℕ). IsBinarySearchResult (λ y. nat_cmp y x) ws (Err i)) same found in
    let at = searched xs x (Err i) found' (ascending-places xs h) in
    subst (λ (ws : List ℕ). is_ascending ws ≡ true) (sym is)
    (cond_both (is_ok r) (insert xs i x) xs (λ (ws : List ℕ). is_ascending ws ≡ true) (λ e. insert-ascending xs i x h at.0 at.1 at.2) (λ e. h))

pub is_in-searched : (xs zs : List ℕ) (x i : ℕ) → is_ascending xs ≡ true → zs ≡ xs → IsBinarySearchResult (λ y. nat_cmp y x) zs (Ok i) → is_in x xs ≡ true
is_in-searched xs zs x i h same found =
    let found' = subst (λ (ws : List ℕ). IsBinarySearchResult (λ y. nat_cmp y x) ws (Ok i)) same found in
    let at = searched xs x (Ok i) found' (ascending-places xs h) in
    subst (λ (n : ℕ). is_in n xs ≡ true) at.1 (is_in-get xs i at.0)

pub members-all : (P : ℕ → Type 0) (xs : List ℕ) → All P xs → (j : ℕ) → is_in j xs ≡ true → P j
members-all P xs h j m = let p = is_in-place j xs m in subst P p.1.1 (h p.0 0 p.1.0)

-- Below a number above the last one are all.
below-end : (xs : List ℕ) (last n : ℕ) → is_ascending xs ≡ true → 0 < length xs → last ≡ get_or xs (length xs - 1) last → last < n → (j : ℕ) → is_in j xs ≡ true → j < n
below-end xs last n h some' at low j m =
    let p = is_in-place j xs m in
    let l : p.0 < length xs = p.1.0 in
    let e : get_or xs p.0 0 ≡ j = p.1.1 in
    let a : get_or xs p.0 0 ≤ get_or xs (length xs - 1) 0 = ascending-places xs h p.0 (length xs - 1) (omega arith) (omega arith) in
    let b : get_or xs (length xs - 1) 0 ≡ last = get_or_default xs (length xs - 1) 0 last (omega arith) ∙ sym at in
    omega arith

pub below-last : (xs zs : List ℕ) (last n : ℕ) → is_ascending xs ≡ true → zs ≡ xs → 0 < length zs → last ≡ get_or zs (length zs - 1) last → last < n →
    (j : ℕ) → is_in j xs ≡ true → j < n
below-last xs zs last n h same some' at low =
    below-end xs last n h (subst (λ (ys : List ℕ). 0 < length ys) same some') (subst (λ (ys : List ℕ). last ≡ get_or ys (length ys - 1) last) same at) low

-- The last one is among them.
pub is_in-last : (xs zs : List ℕ) (last n : ℕ) → zs ≡ xs → 0 < length zs → last ≡ get_or zs (length zs - 1) last → last ≡ n → is_in n xs ≡ true
is_in-last xs zs last n same some' at is =
    let b : get_or zs (length zs - 1) 0 ≡ n = get_or_default zs (length zs - 1) 0 last (omega arith) ∙ sym at ∙ is in
    subst (λ (ys : List ℕ). is_in n ys ≡ true) same (subst (λ (k : ℕ). is_in k zs ≡ true) b (is_in-get zs (length zs - 1) (omega arith)))

pub option-ascending : (o : Option ℕ) → is_ascending (option_to_list o) ≡ true
option-ascending None = refl
option-ascending (Some x) = refl

pub option-none : (o : Option ℕ) (P : Type 0) → P → IfNone o P
option-none None P p = p
option-none (Some x) P p = tt
