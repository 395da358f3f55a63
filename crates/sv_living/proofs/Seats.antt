-- The open sessions by their numbers: where one is, and what is left without it.
use Rattle.std.proofs.Common.{◌≡◌, ℕ, zero, suc, ◌+◌, ◌<◌, ◌≤◌, inl, inr, Bool, true, false, ◌&&◌, ◌||◌, not, cond, All, List, [], ◌∷◌, ◌++◌, length, filter, get_or, nat_eq, nat_lt, Option, Some, None, is_some, refl, sym, ◌∙◌, ap, subst, arith, ltb-true, ltb-false, eq-eqb, ne_eqb}
use Rattle.std.specs.List.{remove, list_all}
use Rattle.std.specs.List.Sorted.{IsPartitionPoint, IsNonDecreasingBy}
use Rattle.std.proofs.lemmas.Bool.{cond_both, cond-true, cond-false, cases_lt, cases_eq, and_parts, and_from, false_from_ne_true, eqb-true, or_parts, not-true, lt-ltb}
use Rattle.std.proofs.lemmas.List.{map-append}
use Rattle.std.proofs.lemmas.List.Edits.{length-remove}
use Rattle.std.proofs.lemmas.List.Elements.{All-filter, filter_passes}
use Rattle.sv_world.specs.Control.{is_in}
use Rattle.sv_world.specs.Faults.{is_ascending}
use Rattle.sv_world.proofs.Members.{is_in-head, is_in-tail, is_in-cons_cases}
use Rattle.sv_world.proofs.Ascending.{ascending-tail, ascending-head, ascending-cons, ascending-push}
use Rattle.sv_core.specs.declared.seats.Seat.{Seat}
use Rattle.sv_living.specs.Table.{seat_of, numbers_in, ends_below}

abbrev pub others : ℕ → List Seat → List Seat
others s seats = filter (λ (seat : Seat). not (nat_eq s seat.session)) seats

-- ---- By place

number-at : (xs : List Seat) (i : ℕ) (d : Seat) → i < length xs → is_in (get_or xs i d).session (numbers_in xs) ≡ true
number-at [] i d low = absurd (omega arith)
number-at (x ∷ xs) zero d low = is_in-head x.session (numbers_in xs)
number-at (x ∷ xs) (suc i) d low = is_in-tail (get_or xs i d).session x.session (numbers_in xs) (number-at xs i d (omega arith))

number-place : (s : ℕ) (xs : List Seat) (d : Seat) → is_in s (numbers_in xs) ≡ true → (k : ℕ) × ((k < length xs) × ((get_or xs k d).session ≡ s))
number-place s [] d m = cc
number-place s (x ∷ xs) d m = elim (is_in-cons_cases s x.session (numbers_in xs) m) [
  | inl e ↦ (0, (omega arith, sym e))
  | inr r ↦ (let p = number-place s xs d r in let low : p.0 < length xs = p.1.0 in (suc p.0, (omega arith, p.1.1)))
]

later : (xs : List Seat) → is_ascending (numbers_in xs) ≡ true → (i k : ℕ) (d : Seat) → i < k → k < length xs → (get_or xs i d).session < (get_or xs k d).session
later [] up i k d less low = absurd (omega arith)
later (x ∷ xs) up i zero d less low = absurd (omega arith)
later (x ∷ xs) up zero (suc k) d less low = ascending-head x.session (numbers_in xs) up (get_or xs k d).session (number-at xs k d (omega arith))
later (x ∷ xs) up (suc i) (suc k) d less low = later xs (ascending-tail x.session (numbers_in xs) up) i k d (omega arith) (omega arith)

pub in-order : (xs : List Seat) → is_ascending (numbers_in xs) ≡ true → IsNonDecreasingBy (λ (x : Seat). x.session) xs
in-order xs up i k d le low = elim (cases_lt i k) [
  | inl less ↦ (let l : (get_or xs i d).session < (get_or xs k d).session = later xs up i k d less low in omega arith)
  | inr more ↦ (let same : i ≡ k = omega arith in subst (λ (j : ℕ). (get_or xs i d).session ≤ (get_or xs j d).session) same (omega arith))
]

-- ---- The seat of a session

pub seat-some : (s : ℕ) (xs : List Seat) → is_some (seat_of s xs) ≡ is_in s (numbers_in xs)
seat-some s [] = refl
seat-some s (x ∷ xs) = go (nat_eq s x.session) (seat-some s xs)
  where
    go : (b : Bool) → is_some (seat_of s xs) ≡ is_in s (numbers_in xs) → is_some (cond b (Some x) (seat_of s xs)) ≡ (b || is_in s (numbers_in xs))
    go true rest = refl
    go false rest = rest

pub seat-none : (s : ℕ) (xs : List Seat) → is_in s (numbers_in xs) ≡ false → seat_of s xs ≡ None
seat-none s xs out = go (seat_of s xs) (seat-some s xs ∙ out)
  where
    go : (o : Option Seat) → is_some o ≡ false → o ≡ None
    go None h = refl
    go (Some x) h = cc

pub seat-at : (s : ℕ) (xs : List Seat) (i : ℕ) (d : Seat) → is_ascending (numbers_in xs) ≡ true → i < length xs → (get_or xs i d).session ≡ s → seat_of s xs ≡ Some (get_or xs i d)
seat-at s [] i d up low is = absurd (omega arith)
seat-at s (x ∷ xs) zero d up low is = cond-true (nat_eq s x.session) (Some x) (seat_of s xs) (eq-eqb s x.session (sym is))
seat-at s (x ∷ xs) (suc i) d up low is =
    let above : x.session < (get_or xs i d).session = ascending-head x.session (numbers_in xs) up (get_or xs i d).session (number-at xs i d (omega arith)) in
    cond-false (nat_eq s x.session) (Some x) (seat_of s xs) (ne_eqb s x.session (λ same. omega (arith, above, is, same)))
    ∙ seat-at s xs i d (ascending-tail x.session (numbers_in xs) up) (omega arith) is

pub seat-all : (P : Seat → Type 0) (s : ℕ) (x : Seat) (xs : List Seat) → All P xs → seat_of s xs ≡ Some x → P x × (x.session ≡ s)
seat-all P s x [] all is = cc
seat-all P s x (y ∷ ys) all is = elim (cases_eq s y.session) [
  | inl same ↦ (
      let one : y ≡ x = some-same y x (sym (cond-true (nat_eq s y.session) (Some y) (seat_of s ys) (eq-eqb s y.session same)) ∙ is) in
      subst (λ (z : Seat). P z × (z.session ≡ s)) one (all 0 y (omega arith), sym same))
  | inr other ↦ seat-all P s x ys (λ k d low. all (suc k) d (omega (arith, low))) (sym (cond-false (nat_eq s y.session) (Some y) (seat_of s ys) (ne_eqb s y.session other)) ∙ is)
]
  where
    some-same : (a b : Seat) → ◌≡◌ {A = Option Seat} (Some a) (Some b) → a ≡ b
    some-same a b e = cc

-- Where those below it end, a session is or it is nowhere.
pub point-none : (s : ℕ) (xs : List Seat) (i : ℕ) (d : Seat) → is_ascending (numbers_in xs) ≡ true → IsPartitionPoint (λ (x : Seat). nat_lt x.session s ≡ true) (λ (x : Seat). nat_lt x.session s ≡ false) xs i
    → (i < length xs → (get_or xs i d).session ≡ s → ⊥) → is_in s (numbers_in xs) ≡ false
point-none s xs i d up point unlike = false_from_ne_true (is_in s (numbers_in xs)) never
  where
    never : is_in s (numbers_in xs) ≡ true → ⊥
    never m =
        let place = number-place s xs d m in
        let k = place.0 in
        let low : k < length xs = place.1.0 in
        let is : (get_or xs k d).session ≡ s = place.1.1 in
        elim (cases_lt k i) [
          | inl below ↦ (let less : (get_or xs k d).session < s = ltb-true (get_or xs k d).session s (point.0 k d (omega arith) below) in omega (arith, less, is))
          | inr more ↦ elim (cases_eq k i) [
            | inl same ↦ unlike (omega (arith, same, low)) (subst (λ (j : ℕ). (get_or xs j d).session ≡ s) same is)
            | inr other ↦ (let before : (get_or xs i d).session < (get_or xs k d).session = later xs up i k d (omega arith) low in
                let over : s ≤ (get_or xs i d).session = ltb-false (get_or xs i d).session s (point.1 i d (omega arith) (omega (arith, more, other, low))) in
                omega (arith, before, over, is))
          ]
        ]

-- ---- All but one

pub others-none : (s : ℕ) (xs : List Seat) → is_in s (numbers_in xs) ≡ false → others s xs ≡ xs
others-none s [] out = refl
others-none s (x ∷ xs) out =
    let parts = or_parts (nat_eq s x.session) (is_in s (numbers_in xs)) out in
    ap (λ (b : Bool). cond (not b) (x ∷ others s xs) (others s xs)) parts.0 ∙ ap (λ (ys : List Seat). x ∷ ys) (others-none s xs parts.1)

above-none : (x : ℕ) (xs : List ℕ) → is_ascending (x ∷ xs) ≡ true → is_in x xs ≡ false
above-none x xs up = false_from_ne_true (is_in x xs) (λ m. let more : x < x = ascending-head x xs up x m in omega (arith, more))

pub others-at : (s : ℕ) (xs : List Seat) (i : ℕ) (d : Seat) → is_ascending (numbers_in xs) ≡ true → i < length xs → (get_or xs i d).session ≡ s → remove xs i ≡ others s xs
others-at s [] i d up low is = absurd (omega arith)
others-at s (x ∷ xs) zero d up low is =
    let gone : is_in s (numbers_in xs) ≡ false = subst (λ (n : ℕ). is_in n (numbers_in xs) ≡ false) is (above-none x.session (numbers_in xs) up) in
    sym (ap (λ (b : Bool). cond (not b) (x ∷ others s xs) (others s xs)) (eq-eqb s x.session (sym is)) ∙ others-none s xs gone)
others-at s (x ∷ xs) (suc i) d up low is =
    let above : x.session < (get_or xs i d).session = ascending-head x.session (numbers_in xs) up (get_or xs i d).session (number-at xs i d (omega arith)) in
    ap (λ (ys : List Seat). x ∷ ys) (others-at s xs i d (ascending-tail x.session (numbers_in xs) up) (omega arith) is)
    ∙ sym (ap (λ (b : Bool). cond (not b) (x ∷ others s xs) (others s xs)) (ne_eqb s x.session (λ same. omega (arith, above, is, same))))

others-from : (s j : ℕ) (xs : List Seat) → is_in j (numbers_in (others s xs)) ≡ true → is_in j (numbers_in xs) ≡ true
others-from s j [] m = m
others-from s j (x ∷ xs) m =
    cond_both (not (nat_eq s x.session)) (x ∷ others s xs) (others s xs) (λ (ys : List Seat). is_in j (numbers_in ys) ≡ true → is_in j (numbers_in (x ∷ xs)) ≡ true)
    (λ _ n. elim (is_in-cons_cases j x.session (numbers_in (others s xs)) n) [
      | inl e ↦ subst (λ (k : ℕ). is_in k (numbers_in (x ∷ xs)) ≡ true) (sym e) (is_in-head x.session (numbers_in xs))
      | inr r ↦ is_in-tail j x.session (numbers_in xs) (others-from s j xs r)
    ])
    (λ _ n. is_in-tail j x.session (numbers_in xs) (others-from s j xs n)) m

pub others-ascending : (s : ℕ) (xs : List Seat) → is_ascending (numbers_in xs) ≡ true → is_ascending (numbers_in (others s xs)) ≡ true
others-ascending s [] up = refl
others-ascending s (x ∷ xs) up =
    let rest = others-ascending s xs (ascending-tail x.session (numbers_in xs) up) in
    cond_both (not (nat_eq s x.session)) (x ∷ others s xs) (others s xs) (λ (ys : List Seat). is_ascending (numbers_in ys) ≡ true)
    (λ _. ascending-cons x.session (numbers_in (others s xs)) (λ j m. ascending-head x.session (numbers_in xs) up j (others-from s j xs m)) rest)
    (λ _. rest)

-- ---- One more, above all

pub all-below : (s : ℕ) (xs : List Seat) → ends_below s xs ≡ true → (j : ℕ) → is_in j (numbers_in xs) ≡ true → j < s
all-below s [] below j m = cc
all-below s (x ∷ xs) below j m =
    let parts = and_parts (nat_lt x.session s) (list_all (λ (seat : Seat). nat_lt seat.session s) xs) below in
    elim (is_in-cons_cases j x.session (numbers_in xs) m) [
      | inl e ↦ (let less : x.session < s = ltb-true x.session s parts.0 in omega (arith, less, e))
      | inr r ↦ all-below s xs parts.1 j r
    ]

pub push-ascending : (xs : List Seat) (x : Seat) → is_ascending (numbers_in xs) ≡ true → ends_below x.session xs ≡ true → is_ascending (numbers_in (xs ++ x ∷ [])) ≡ true
push-ascending xs x up below =
    subst (λ (ns : List ℕ). is_ascending ns ≡ true) (sym (map-append (λ (seat : Seat). seat.session) xs (x ∷ [])))
    (ascending-push (numbers_in xs) x.session up (all-below x.session xs below))

pub below-all : (s : ℕ) (xs : List Seat) → ((j : ℕ) → is_in j (numbers_in xs) ≡ true → j < s) → ends_below s xs ≡ true
below-all s [] low = refl
below-all s (x ∷ xs) low =
    and_from (nat_lt x.session s) (list_all (λ (seat : Seat). nat_lt seat.session s) xs) (lt-ltb x.session s (low x.session (is_in-head x.session (numbers_in xs))))
    (below-all s xs (λ j m. low j (is_in-tail j x.session (numbers_in xs) m)))

not-below : (s : ℕ) (xs : List Seat) → ends_below s xs ≡ true → is_in s (numbers_in xs) ≡ false
not-below s xs below = false_from_ne_true (is_in s (numbers_in xs)) (λ m. let less : s < s = all-below s xs below s m in omega (arith, less))

-- What was entered last is taken out again.
pub others-push : (s : ℕ) (xs : List Seat) (x : Seat) → x.session ≡ s → ends_below s xs ≡ true → others s (xs ++ x ∷ []) ≡ xs
others-push s xs x is below = go xs (not-below s xs below)
  where
    go : (ys : List Seat) → is_in s (numbers_in ys) ≡ false → others s (ys ++ x ∷ []) ≡ ys
    go [] out = ap (λ (b : Bool). cond (not b) (x ∷ []) []) (eq-eqb s x.session (sym is))
    go (y ∷ ys) out =
        let parts = or_parts (nat_eq s y.session) (is_in s (numbers_in ys)) out in
        ap (λ (b : Bool). cond (not b) (y ∷ others s (ys ++ x ∷ [])) (others s (ys ++ x ∷ []))) parts.0 ∙ ap (λ (zs : List Seat). y ∷ zs) (go ys parts.1)

pub others-numbers : (s t : ℕ) (xs : List Seat) → is_in t (numbers_in (others s xs)) ≡ (not (nat_eq s t) && is_in t (numbers_in xs))
others-numbers s t [] = sym (never (not (nat_eq s t)))
  where
    never : (b : Bool) → (b && false) ≡ false
    never true = refl
    never false = refl
others-numbers s t (x ∷ xs) = elim (cases_eq s x.session) [
  | inl same ↦ ap (λ (b : Bool). is_in t (numbers_in (cond (not b) (x ∷ others s xs) (others s xs)))) (eq-eqb s x.session same)
      ∙ others-numbers s t xs
      ∙ subst (λ (n : ℕ). (not (nat_eq s t) && is_in t (numbers_in xs)) ≡ (not (nat_eq s t) && (nat_eq t n || is_in t (numbers_in xs)))) same (drop-own (nat_eq s t) (nat_eq t s) (is_in t (numbers_in xs)) (turned s t))
  | inr other ↦ ap (λ (b : Bool). is_in t (numbers_in (cond (not b) (x ∷ others s xs) (others s xs)))) (ne_eqb s x.session other)
      ∙ ap (λ (b : Bool). nat_eq t x.session || b) (others-numbers s t xs)
      ∙ pull (nat_eq s t) (nat_eq t x.session) (is_in t (numbers_in xs)) (λ a b. other (eqb-true s t a ∙ eqb-true t x.session b))
]
  where
    turned : (a b : ℕ) → nat_eq a b ≡ nat_eq b a
    turned a b = elim (cases_eq a b) [
      | inl same ↦ eq-eqb a b same ∙ sym (eq-eqb b a (sym same))
      | inr other ↦ ne_eqb a b other ∙ sym (ne_eqb b a (λ same. other (sym same)))
    ]

    drop-own : (a b c : Bool) → a ≡ b → (not a && c) ≡ (not a && (b || c))
    drop-own true b c is = refl
    drop-own false true c is = cc
    drop-own false false c is = refl

    pull : (a b c : Bool) → (a ≡ true → b ≡ true → ⊥) → (b || (not a && c)) ≡ (not a && (b || c))
    pull true true c apart = absurd (apart refl refl)
    pull true false c apart = refl
    pull false b c apart = refl

pub push-numbers : (t : ℕ) (xs : List Seat) (x : Seat) → is_in t (numbers_in (xs ++ x ∷ [])) ≡ (nat_eq t x.session || is_in t (numbers_in xs))
push-numbers t [] x = refl
push-numbers t (y ∷ ys) x = ap (λ (b : Bool). nat_eq t y.session || b) (push-numbers t ys x) ∙ swap (nat_eq t y.session) (nat_eq t x.session) (is_in t (numbers_in ys))
  where
    swap : (a b c : Bool) → (a || (b || c)) ≡ (b || (a || c))
    swap true true c = refl
    swap true false c = refl
    swap false b c = refl

pub others-length : (s : ℕ) (xs : List Seat) → is_ascending (numbers_in xs) ≡ true → is_in s (numbers_in xs) ≡ true → length (others s xs) + 1 ≡ length xs
others-length s xs up m =
    let place = number-place s xs (record { slot = 0; session = 0 }) m in
    ap (λ (ys : List Seat). length ys + 1) (sym (others-at s xs place.0 (record { slot = 0; session = 0 }) up place.1.0 place.1.1))
    ∙ length-remove xs place.0 place.1.0

pub all-others : (P Q : Seat → Type 0) (s : ℕ) → ((x : Seat) → P x → nat_eq s x.session ≡ false → Q x) → (xs : List Seat) → All P xs → All Q (others s xs)
all-others P Q s weaker xs all k d low =
    weaker (get_or (others s xs) k d) (All-filter (λ (x : Seat). not (nat_eq s x.session)) P xs all k d low)
    (not-true (nat_eq s (get_or (others s xs) k d).session) (filter_passes (λ (x : Seat). not (nat_eq s x.session)) xs k d low))
