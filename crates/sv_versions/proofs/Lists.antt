-- Filters that keep the front or the back of a list, and tests over a mapped list.
use Rattle.std.proofs.Common.{◌≡◌, ℕ, zero, suc, ◌<◌, ◌≤◌, Bool, true, false, cond, ◌||◌, List, [], ◌∷◌, length, get_or, take, drop, map, refl, ap, ◌∙◌, arith}
use Rattle.std.specs.List.{filter, list_any}
use Rattle.std.proofs.lemmas.Bool.{cond-true, cond-false}

pub filter_front : {X : Type 0} (t : X → Bool) (xs : List X) (n : ℕ) → ((k : ℕ) (d : X) → k < n → k < length xs → t (get_or xs k d) ≡ true) → ((k : ℕ) (d : X) → n ≤ k → k < length xs → t (get_or xs k d) ≡ false) → filter t xs ≡ take n xs
filter_front t [] zero passes fails = refl
filter_front t [] (suc n) passes fails = refl
filter_front t (x ∷ xs) zero passes fails =
    cond-false (t x) _ _ (fails 0 x (omega arith) (omega arith))
    ∙ filter_front t xs zero (λ k d h l. absurd (omega arith)) (λ k d h l. fails (suc k) d (omega arith) (omega arith))
filter_front t (x ∷ xs) (suc n) passes fails =
    cond-true (t x) _ _ (passes 0 x (omega arith) (omega arith))
    ∙ ap (λ ys. x ∷ ys) (filter_front t xs n (λ k d h l. passes (suc k) d (omega arith) (omega arith)) (λ k d h l. fails (suc k) d (omega arith) (omega arith)))

pub filter_back : {X : Type 0} (t : X → Bool) (xs : List X) (n : ℕ) → ((k : ℕ) (d : X) → k < n → k < length xs → t (get_or xs k d) ≡ false) → ((k : ℕ) (d : X) → n ≤ k → k < length xs → t (get_or xs k d) ≡ true) → filter t xs ≡ drop n xs
filter_back t [] zero fails passes = refl
filter_back t [] (suc n) fails passes = refl
filter_back t (x ∷ xs) zero fails passes =
    cond-true (t x) _ _ (passes 0 x (omega arith) (omega arith))
    ∙ ap (λ ys. x ∷ ys) (filter_back t xs zero (λ k d h l. absurd (omega arith)) (λ k d h l. passes (suc k) d (omega arith) (omega arith)))
filter_back t (x ∷ xs) (suc n) fails passes =
    cond-false (t x) _ _ (fails 0 x (omega arith) (omega arith))
    ∙ filter_back t xs n (λ k d h l. fails (suc k) d (omega arith) (omega arith)) (λ k d h l. passes (suc k) d (omega arith) (omega arith))

one_mapped : {X Y : Type 0} (f : X → Y) (x : X) (b : Bool) (ys : List Y) (zs : List X) → ys ≡ map f zs → cond b (f x ∷ ys) ys ≡ map f (cond b (x ∷ zs) zs)
one_mapped f x true ys zs e = ap (λ l. f x ∷ l) e
one_mapped f x false ys zs e = e

pub filter_map_is : {X Y : Type 0} (f : X → Y) (t : Y → Bool) (xs : List X) → filter t (map f xs) ≡ map f (filter (λ x. t (f x)) xs)
filter_map_is f t [] = refl
filter_map_is f t (x ∷ xs) = one_mapped f x (t (f x)) _ _ (filter_map_is f t xs)

pub list_any_map_is : {X Y : Type 0} (f : X → Y) (t : Y → Bool) (xs : List X) → list_any t (map f xs) ≡ list_any (λ x. t (f x)) xs
list_any_map_is f t [] = refl
list_any_map_is f t (x ∷ xs) = ap (λ b. t (f x) || b) (list_any_map_is f t xs)
