-- The elements of a list replaced one after the other.
use Rattle.std.proofs.Common.{◌≡◌, ℕ, zero, suc, ◌<◌, List, [], ◌∷◌, ◌++◌, length, map, take, drop, get_or, set, refl, ap, arith}

pub replaced : {X : Type 0} (f : X → X) (k : ℕ) (xs : List X) (d : X) → k < length xs
    → set (map f (take k xs) ++ drop k xs) k (f (get_or xs k d)) ≡ map f (take (suc k) xs) ++ drop (suc k) xs
replaced f k [] d l = absurd (omega arith)
replaced f zero (x ∷ xs) d l = refl
replaced f (suc k) (x ∷ xs) d l = ap (λ ys. f x ∷ ys) (replaced f k xs d (omega arith))

pub at_replaced : {X : Type 0} (f : X → X) (k : ℕ) (xs : List X) (d : X) → k < length xs → get_or (map f (take k xs) ++ drop k xs) k d ≡ get_or xs k d
at_replaced f k [] d l = absurd (omega arith)
at_replaced f zero (x ∷ xs) d l = refl
at_replaced f (suc k) (x ∷ xs) d l = at_replaced f k xs d (omega arith)
