-- Lists by their places.
use Rattle.std.proofs.Common.{◌≡◌, ℕ, zero, suc, ◌<◌, ◌≤◌, List, [], ◌∷◌, ◌++◌, map, drop, length, slice_get, Some, option_map, refl, ap, subst, ◌∙◌, arith}
use Rattle.std.specs.List.{AllByRecursion}
use Rattle.std.proofs.lemmas.Option.{none-some, same_Some, slice_get-map}
use Rattle.law_system.specs.Places.{EachPlace}

pub each_push : {X : Type 0} (P : ℕ → X → Type 0) (xs : List X) (x : X) → EachPlace P xs → P (length xs) x → (k : ℕ) (y : X) → slice_get (xs ++ x ∷ []) k ≡ Some y → P k y
each_push P [] x all one zero y e = subst (P 0) (same_Some x y e) one
each_push P [] x all one (suc k) y e = absurd (none-some y e)
each_push P (z ∷ zs) x all one zero y e = all 0 y e
each_push P (z ∷ zs) x all one (suc k) y e = each_push (λ n. P (suc n)) zs x (λ n. all (suc n)) one k y e

pub each_all : {X : Type 0} (P : ℕ → X → Type 0) (Q : X → Type 0) (xs : List X) → EachPlace P xs → ((k : ℕ) (x : X) → P k x → Q x) → AllByRecursion Q xs
each_all P Q [] all f = tt
each_all P Q (x ∷ xs) all f = (f 0 x (all 0 x refl), each_all (λ n. P (suc n)) Q xs (λ n. all (suc n)) (λ n. f (suc n)))

pub at_place : {X : Type 0} (xs : List X) (k : ℕ) → k < length xs → (x : X) × (slice_get xs k ≡ Some x)
at_place [] k l = absurd (omega (arith, l))
at_place (x ∷ xs) zero l = (x, refl)
at_place (x ∷ xs) (suc k) l = at_place xs k (omega (arith, l))

pub map_at : {X Y : Type 0} (f : X → Y) (xs : List X) (k : ℕ) (x : X) → slice_get xs k ≡ Some x → slice_get (map f xs) k ≡ Some (f x)
map_at f xs k x e = slice_get-map f xs k ∙ ap (option_map f) e

-- what stands at a place of a mapped list
pub unmap_at : {X Y : Type 0} (f : X → Y) (xs : List X) (k : ℕ) (y : Y) → slice_get (map f xs) k ≡ Some y → (x : X) × (slice_get xs k ≡ Some x) × (f x ≡ y)
unmap_at f [] k y e = absurd (none-some y e)
unmap_at f (x ∷ xs) zero y e = (x, refl, same_Some (f x) y e)
unmap_at f (x ∷ xs) (suc k) y e = unmap_at f xs k y e

pub drop-none : {X : Type 0} (n : ℕ) (xs : List X) → drop n xs ≡ [] → length xs ≤ n
drop-none zero [] e = omega arith
drop-none zero (x ∷ xs) e = cc
drop-none (suc n) [] e = omega arith
drop-none (suc n) (x ∷ xs) e = (let l : length xs ≤ n = drop-none n xs e in omega arith)
