-- Which numbers are in a list.
use Rattle.std.proofs.Common.{◌≡◌, ℕ, zero, suc, Bool, true, false, ◌⊎◌, inl, inr, List, [], ◌∷◌, ◌++◌, map, filter, refl, sym, ◌∙◌, ap, ap₂, subst, nat_eq, arith, eq-eqb, eqb-true}
use Rattle.std.specs.Prelude.{if◌then◌else◌, All}
use Rattle.std.specs.List.{list_any}
use Rattle.std.proofs.lemmas.Bool.{cond_both, or_cases, or_left, or_right}
use Rattle.sv_world.specs.Control.{is_in}

pub is_in-head : (k : ℕ) (xs : List ℕ) → is_in k (k ∷ xs) ≡ true
is_in-head k xs = or_left (nat_eq k k) (is_in k xs) (eq-eqb k k refl)

pub is_in-tail : (k x : ℕ) (xs : List ℕ) → is_in k xs ≡ true → is_in k (x ∷ xs) ≡ true
is_in-tail k x xs h = or_right (nat_eq k x) (is_in k xs) h

pub is_in-cons_cases : (k x : ℕ) (xs : List ℕ) → is_in k (x ∷ xs) ≡ true → (k ≡ x) ⊎ (is_in k xs ≡ true)
is_in-cons_cases k x xs h = elim (or_cases (nat_eq k x) (is_in k xs) h) [ inl e ↦ inl (eqb-true k x e) | inr r ↦ inr r ]

pub is_in-one : (k x : ℕ) → is_in k (x ∷ []) ≡ true → k ≡ x
is_in-one k x h = elim (is_in-cons_cases k x [] h) [ inl e ↦ e | inr r ↦ cc ]

pub is_in-append_left : (k : ℕ) (xs ys : List ℕ) → is_in k xs ≡ true → is_in k (xs ++ ys) ≡ true
is_in-append_left k [] ys h = cc
is_in-append_left k (x ∷ xs) ys h =
    elim (or_cases (nat_eq k x) (is_in k xs) h) [
      | inl e ↦ or_left (nat_eq k x) (is_in k (xs ++ ys)) e
      | inr r ↦ is_in-tail k x (xs ++ ys) (is_in-append_left k xs ys r)
    ]

pub is_in-append_right : (k : ℕ) (xs ys : List ℕ) → is_in k ys ≡ true → is_in k (xs ++ ys) ≡ true
is_in-append_right k [] ys h = h
is_in-append_right k (x ∷ xs) ys h = is_in-tail k x (xs ++ ys) (is_in-append_right k xs ys h)

pub is_in-append_cases : (k : ℕ) (xs ys : List ℕ) → is_in k (xs ++ ys) ≡ true → (is_in k xs ≡ true) ⊎ (is_in k ys ≡ true)
is_in-append_cases k [] ys h = inr h
is_in-append_cases k (x ∷ xs) ys h =
    elim (or_cases (nat_eq k x) (is_in k (xs ++ ys)) h) [
      | inl e ↦ inl (or_left (nat_eq k x) (is_in k xs) e)
      | inr r ↦ elim (is_in-append_cases k xs ys r) [ inl l ↦ inl (is_in-tail k x xs l) | inr s ↦ inr s ]
    ]

pub is_in-filter : (p : ℕ → Bool) (k : ℕ) (xs : List ℕ) → is_in k xs ≡ true → p k ≡ true → is_in k (filter p xs) ≡ true
is_in-filter p k [] h q = cc
is_in-filter p k (x ∷ xs) h q =
    let rest : is_in k xs ≡ true → is_in k (filter p xs) ≡ true = λ r. is_in-filter p k xs r q in
    cond_both (p x) (x ∷ filter p xs) (filter p xs) (λ (ys : List ℕ). is_in k ys ≡ true)
    (λ e. elim (is_in-cons_cases k x xs h) [ inl s ↦ subst (λ (y : ℕ). is_in k (y ∷ filter p xs) ≡ true) s (is_in-head k (filter p xs)) | inr r ↦ is_in-tail k x (filter p xs) (rest r) ])
    (λ e. elim (is_in-cons_cases k x xs h) [ inl s ↦ (let f : p x ≡ true = ap p (sym s) ∙ q in cc) | inr r ↦ rest r ])

pub is_in-filter_parts : (p : ℕ → Bool) (k : ℕ) (xs : List ℕ) → is_in k (filter p xs) ≡ true → (is_in k xs ≡ true) × (p k ≡ true)
is_in-filter_parts p k [] h = cc
is_in-filter_parts p k (x ∷ xs) h =
    let rest : is_in k (filter p xs) ≡ true → (is_in k (x ∷ xs) ≡ true) × (p k ≡ true) =
    λ r. (let both = is_in-filter_parts p k xs r in (is_in-tail k x xs both.0, both.1)) in
    cond_both (p x) (x ∷ filter p xs) (filter p xs) (λ (ys : List ℕ). is_in k ys ≡ true → (is_in k (x ∷ xs) ≡ true) × (p k ≡ true))
    (λ e g. elim (is_in-cons_cases k x (filter p xs) g) [
      | inl s ↦ (subst (λ (y : ℕ). is_in k (y ∷ xs) ≡ true) s (is_in-head k xs), ap p s ∙ e)
      | inr r ↦ rest r
    ])
    (λ e g. rest g)
    h

pub is_in-map : (f : ℕ → ℕ) (x : ℕ) (xs : List ℕ) → is_in x xs ≡ true → is_in (f x) (map f xs) ≡ true
is_in-map f x [] h = cc
is_in-map f x (y ∷ ys) h =
    elim (is_in-cons_cases x y ys h) [
      | inl e ↦ subst (λ (z : ℕ). is_in (f x) (f z ∷ map f ys) ≡ true) e (is_in-head (f x) (map f ys))
      | inr r ↦ is_in-tail (f x) (f y) (map f ys) (is_in-map f x ys r)
    ]

pub is_in-map_from : (f : ℕ → ℕ) (k : ℕ) (xs : List ℕ) → is_in k (map f xs) ≡ true → (x : ℕ) × ((is_in x xs ≡ true) × (k ≡ f x))
is_in-map_from f k [] h = cc
is_in-map_from f k (y ∷ ys) h =
    elim (is_in-cons_cases k (f y) (map f ys) h) [
      | inl e ↦ (y, (is_in-head y ys, e))
      | inr r ↦ (let from = is_in-map_from f k ys r in (from.0, (is_in-tail from.0 y ys from.1.0, from.1.1)))
    ]

-- ---- tests of the members

pub any_from : (f : ℕ → Bool) (x : ℕ) (xs : List ℕ) → is_in x xs ≡ true → f x ≡ true → list_any f xs ≡ true
any_from f x [] h t = cc
any_from f x (y ∷ ys) h t =
    elim (is_in-cons_cases x y ys h) [ inl e ↦ or_left (f y) (list_any f ys) (ap f (sym e) ∙ t) | inr r ↦ or_right (f y) (list_any f ys) (any_from f x ys r t) ]

pub any_parts : (f : ℕ → Bool) (xs : List ℕ) → list_any f xs ≡ true → (x : ℕ) × ((is_in x xs ≡ true) × (f x ≡ true))
any_parts f [] h = cc
any_parts f (y ∷ ys) h =
    elim (or_cases (f y) (list_any f ys) h) [
      | inl e ↦ (y, (is_in-head y ys, e))
      | inr r ↦ (let p = any_parts f ys r in (p.0, (is_in-tail p.0 y ys p.1.0, p.1.1)))
    ]

-- A filter looks at the test of the members alone.
pub filter-ext : (p q : ℕ → Bool) (xs : List ℕ) → ((x : ℕ) → is_in x xs ≡ true → p x ≡ q x) → filter p xs ≡ filter q xs
filter-ext p q [] f = refl
filter-ext p q (x ∷ xs) f =
    ap₂ (λ (b : Bool) (l : List ℕ). if b then x ∷ l else l) (f x (is_in-head x xs)) (filter-ext p q xs (λ y m. f y (is_in-tail y x xs m)))

-- A fact of each member is one of each place.
pub all-members : (P : ℕ → Type 0) (xs : List ℕ) → ((j : ℕ) → is_in j xs ≡ true → P j) → All P xs
all-members P [] h k d l = absurd (omega arith)
all-members P (x ∷ xs) h zero d l = h x (is_in-head x xs)
all-members P (x ∷ xs) h (suc k) d l = all-members P xs (λ j m. h j (is_in-tail j x xs m)) k d (omega arith)

pub same_test : (b d : Bool) → (b ≡ true → d ≡ true) → (d ≡ true → b ≡ true) → b ≡ d
same_test true d f g = sym (f refl)
same_test false true f g = g refl
same_test false false f g = refl
