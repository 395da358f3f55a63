-- What is in a list of numbers.
use Rattle.std.proofs.Common.{◌≡◌, ℕ, zero, suc, Bool, true, false, ◌&&◌, ◌||◌, cond, nat_lt, nat_eq, List, [], ◌∷◌, ◌++◌, filter, refl, ◌∙◌, ap, arith}
use Rattle.std.proofs.lemmas.Bool.{eqb-true}
use Rattle.std.proofs.lemmas.Bool.Decides.{nat_tests}
use Rattle.sv_world.specs.Control.{is_in, below}

pub is_in-append : (k : ℕ) (xs ys : List ℕ) → is_in k (xs ++ ys) ≡ (is_in k xs || is_in k ys)
is_in-append k [] ys = refl
is_in-append k (x ∷ xs) ys = go (nat_eq k x) (is_in-append k xs ys)
  where
    go : (b : Bool) → is_in k (xs ++ ys) ≡ (is_in k xs || is_in k ys) → (b || is_in k (xs ++ ys)) ≡ ((b || is_in k xs) || is_in k ys)
    go true h = refl
    go false h = h

pub is_in-below : (k n : ℕ) → is_in k (below n) ≡ nat_lt k n
is_in-below k zero = grind (arith, nat_tests)
is_in-below k (suc n) = rw (is_in-append k (below n) (n ∷ []), is_in-below k n) (grind (arith, nat_tests))

and-false : (b : Bool) → (b && false) ≡ false
and-false true = refl
and-false false = refl

pub is_in-filtered : (p : ℕ → Bool) (k : ℕ) (xs : List ℕ) → is_in k (filter p xs) ≡ (is_in k xs && p k)
is_in-filtered p k [] = refl
is_in-filtered p k (x ∷ xs) = go (p x) refl (nat_eq k x) refl (is_in-filtered p k xs)
  where
    go : (b : Bool) → p x ≡ b → (e : Bool) → nat_eq k x ≡ e → is_in k (filter p xs) ≡ (is_in k xs && p k) →
        is_in k (cond b (x ∷ filter p xs) (filter p xs)) ≡ ((e || is_in k xs) && p k)
    go true pb true eb h = rw (eb, ap p (eqb-true k x eb), pb) refl
    go true pb false eb h = rw eb h
    go false pb true eb h = let same : k ≡ x = eqb-true k x eb in let none : p k ≡ false = ap p same ∙ pb in h ∙ rw none (and-false (is_in k xs))
    go false pb false eb h = h
