-- Lists that begin another list.
use Rattle.std.proofs.Common.{◌≡◌, ℕ, zero, suc, ◌⊎◌, inl, inr, List, [], ◌∷◌, ◌++◌, length, Some, slice_get, refl, sym, ap, ap₂, ◌∙◌, arith}
use Rattle.std.proofs.lemmas.Option.{none-some, same_Some}
use Rattle.law_system.specs.Fronts.{IsFront}

pub front-all : {X : Type 0} (xs : List X) → IsFront xs xs
front-all xs i x e = e

pub front-then : {X : Type 0} (xs ys zs : List X) → IsFront xs ys → IsFront ys zs → IsFront xs zs
front-then xs ys zs f g i x e = g i x (f i x e)

pub front-append : {X : Type 0} (xs ys : List X) → IsFront xs (xs ++ ys)
front-append [] ys i x e = absurd (none-some x e)
front-append (y ∷ xs) ys zero x e = e
front-append (y ∷ xs) ys (suc i) x e = front-append xs ys i x e

pub get-last : {X : Type 0} (xs : List X) (y : X) → slice_get (xs ++ y ∷ []) (length xs) ≡ Some y
get-last [] y = refl
get-last (x ∷ xs) y = get-last xs y

-- An element of a list with one more is one of the list, or the last one.
pub get-push_cases : {X : Type 0} (xs : List X) (y : X) (i : ℕ) (x : X) → slice_get (xs ++ y ∷ []) i ≡ Some x →
    (slice_get xs i ≡ Some x) ⊎ ((i ≡ length xs) × (x ≡ y))
get-push_cases [] y zero x e = inr (refl, sym (same_Some y x e))
get-push_cases [] y (suc i) x e = absurd (none-some x e)
get-push_cases (z ∷ xs) y zero x e = inl e
get-push_cases (z ∷ xs) y (suc i) x e =
    elim (get-push_cases xs y i x e) [ inl s ↦ inl s | inr s ↦ inr (ap suc s.0, s.1) ]

-- Two fronts of a list with as many elements are the same.
pub fronts-same : {X : Type 0} (xs ys zs : List X) → IsFront xs zs → IsFront ys zs → length xs ≡ length ys → xs ≡ ys
fronts-same [] [] zs f g e = refl
fronts-same [] (y ∷ ys) zs f g e = absurd (omega arith)
fronts-same (x ∷ xs) [] zs f g e = absurd (omega arith)
fronts-same (x ∷ xs) (y ∷ ys) [] f g e = absurd (none-some x (f 0 x refl))
fronts-same (x ∷ xs) (y ∷ ys) (z ∷ zs) f g e =
    ap₂ (λ w ws. w ∷ ws) (sym (same_Some z x (f 0 x refl)) ∙ same_Some z y (g 0 y refl))
    (fronts-same xs ys zs (λ i w h. f (suc i) w h) (λ i w h. g (suc i) w h) (omega arith))
