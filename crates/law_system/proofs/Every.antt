-- What holds of each element of a list.
use Rattle.std.proofs.Common.{◌≡◌, ℕ, zero, suc, Bool, true, false, cond, inl, inr, List, [], ◌∷◌, ◌++◌, map, get_or, reverse, Some, refl, sym, subst}
use Rattle.std.specs.Prelude.{slice_get}
use Rattle.std.specs.List.{AllByRecursion}
use Rattle.std.proofs.lemmas.Option.{none-some, same_Some}
use Rattle.std.proofs.lemmas.List.{reverse-append}
use Rattle.sv_world.specs.Control.{is_in}
use Rattle.sv_world.proofs.Members.{is_in-cons_cases, is_in-head, is_in-tail}

pub each-at : {X : Type 0} (P : X → Type 0) (xs : List X) (i : ℕ) (x : X) → AllByRecursion P xs → slice_get xs i ≡ Some x → P x
each-at P [] i x all e = absurd (none-some x e)
each-at P (y ∷ ys) zero x all e = subst P (same_Some y x e) all.0
each-at P (y ∷ ys) (suc i) x all e = each-at P ys i x all.1 e

pub each-get : {X : Type 0} (P : X → Type 0) (xs : List X) (k : ℕ) (d : X) → AllByRecursion P xs → P d → P (get_or xs k d)
each-get P [] k d all h = h
each-get P (x ∷ xs) zero d all h = all.0
each-get P (x ∷ xs) (suc k) d all h = each-get P xs k d all.1 h

pub each-append : {X : Type 0} (P : X → Type 0) (xs ys : List X) → AllByRecursion P xs → AllByRecursion P ys → AllByRecursion P (xs ++ ys)
each-append P [] ys a b = b
each-append P (x ∷ xs) ys a b = (a.0, each-append P xs ys a.1 b)

pub each-push : {X : Type 0} (P : X → Type 0) (xs : List X) (x : X) → AllByRecursion P xs → P x → AllByRecursion P (xs ++ x ∷ [])
each-push P xs x all one = each-append P xs (x ∷ []) all (one, tt)

pub each-left : {X : Type 0} (P : X → Type 0) (xs ys : List X) → AllByRecursion P (xs ++ ys) → AllByRecursion P xs
each-left P [] ys all = tt
each-left P (x ∷ xs) ys all = (all.0, each-left P xs ys all.1)

pub each-right : {X : Type 0} (P : X → Type 0) (xs ys : List X) → AllByRecursion P (xs ++ ys) → AllByRecursion P ys
each-right P [] ys all = all
each-right P (x ∷ xs) ys all = each-right P xs ys all.1

pub each-last : {X : Type 0} (P : X → Type 0) (xs : List X) (y : X) → AllByRecursion P (xs ++ y ∷ []) → P y
each-last P xs y all = (each-right P xs (y ∷ []) all).0

pub each-if : {X : Type 0} (P : X → Type 0) (b : Bool) (xs : List X) → AllByRecursion P xs → AllByRecursion P (cond b xs [])
each-if P true xs all = all
each-if P false xs all = tt

pub each-map : {X Y : Type 0} (f : X → Y) (P : Y → Type 0) (xs : List X) → AllByRecursion (λ x. P (f x)) xs → AllByRecursion P (map f xs)
each-map f P [] all = tt
each-map f P (x ∷ xs) all = (all.0, each-map f P xs all.1)

pub each-more : {X : Type 0} (P Q : X → Type 0) → ((x : X) → P x → Q x) → (xs : List X) → AllByRecursion P xs → AllByRecursion Q xs
each-more P Q f [] all = tt
each-more P Q f (x ∷ xs) all = (f x all.0, each-more P Q f xs all.1)

pub each-anyhow : {X : Type 0} (P : X → Type 0) → ((x : X) → P x) → (xs : List X) → AllByRecursion P xs
each-anyhow P f [] = tt
each-anyhow P f (x ∷ xs) = (f x, each-anyhow P f xs)

-- by the numbers that are members
pub each-is_in : (P : ℕ → Type 0) (xs : List ℕ) → AllByRecursion P xs → (k : ℕ) → is_in k xs ≡ true → P k
each-is_in P [] all k m = cc
each-is_in P (x ∷ xs) all k m =
    elim (is_in-cons_cases k x xs m) [
      | inl e ↦ subst P (sym e) all.0
      | inr r ↦ each-is_in P xs all.1 k r
    ]

pub each-member : (P : ℕ → Type 0) (xs : List ℕ) → ((x : ℕ) → is_in x xs ≡ true → P x) → AllByRecursion P xs
each-member P [] f = tt
each-member P (x ∷ xs) f = (f x (is_in-head x xs), each-member P xs (λ y m. f y (is_in-tail y x xs m)))

-- by the places of a list
pub each-place : {X : Type 0} (P : X → Type 0) (xs : List X) → ((i : ℕ) (x : X) → slice_get xs i ≡ Some x → P x) → AllByRecursion P xs
each-place P [] f = tt
each-place P (x ∷ xs) f = (f 0 x refl, each-place P xs (λ i y e. f (suc i) y e))

pub each-reverse : {X : Type 0} (P : X → Type 0) (xs : List X) → AllByRecursion P xs → AllByRecursion P (reverse xs)
each-reverse P [] all = tt
each-reverse P (x ∷ xs) all = subst (AllByRecursion P) (sym (reverse-append (x ∷ []) xs)) (each-append P (reverse xs) (x ∷ []) (each-reverse P xs all.1) (all.0, tt))
