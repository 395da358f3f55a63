-- Lists that are mapped place by place, and what each element adds to another list.
use Rattle.std.proofs.Common.{◌≡◌, ℕ, zero, suc, ◌+◌, ◌<◌, ◌≤◌, List, [], ◌∷◌, ◌++◌, length, map, take, get_or, set, refl, ap, ◌∙◌, arith, append-nil}
use Rattle.std.specs.Prelude.{All}
use Rattle.std.specs.List.{flat_map}
use Rattle.std.proofs.lemmas.List.{take_more}
use Rattle.std.proofs.lemmas.List.Elements.{All-tail}
use Rattle.std.proofs.lemmas.Grind.{flat_map-append}

module _ {X : Type 0} (f : X → X) where
  -- the first n elements are mapped, and the others are as they were
  abbrev pub mapped_to : ℕ → List X → List X
  mapped_to zero xs = xs
  mapped_to (suc n) [] = []
  mapped_to (suc n) (x ∷ xs) = f x ∷ mapped_to n xs

  pub mapped_all : (n : ℕ) (xs : List X) → length xs ≤ n → mapped_to n xs ≡ map f xs
  mapped_all zero [] l = refl
  mapped_all zero (x ∷ xs) l = absurd (omega arith)
  mapped_all (suc n) [] l = refl
  mapped_all (suc n) (x ∷ xs) l = ap (λ (ys : List X). f x ∷ ys) (mapped_all n xs (omega arith))

  -- The next one is as it was.
  pub mapped_next : (n : ℕ) (xs : List X) (d : X) → n < length xs → get_or (mapped_to n xs) n d ≡ get_or xs n d
  mapped_next n [] d l = absurd (omega arith)
  mapped_next zero (x ∷ xs) d l = refl
  mapped_next (suc n) (x ∷ xs) d l = mapped_next n xs d (omega arith)

  mapped_suc : (n : ℕ) (xs : List X) (d : X) → n < length xs → set (mapped_to n xs) n (f (get_or xs n d)) ≡ mapped_to (suc n) xs
  mapped_suc n [] d l = absurd (omega arith)
  mapped_suc zero (x ∷ xs) d l = refl
  mapped_suc (suc n) (x ∷ xs) d l = ap (λ (ys : List X). f x ∷ ys) (mapped_suc n xs d (omega arith))

  same_suc : (n : ℕ) → suc n ≡ n + 1
  same_suc n = omega arith

  -- It is mapped.
  pub mapped_more : (n : ℕ) (xs : List X) (d y : X) → n < length xs → y ≡ f (get_or xs n d) → set (mapped_to n xs) n y ≡ mapped_to (n + 1) xs
  mapped_more n xs d y l e = ap (λ (z : X). set (mapped_to n xs) n z) e ∙ mapped_suc n xs d l ∙ ap (λ (m : ℕ). mapped_to m xs) (same_suc n)

module _ {X : Type 0} where
  pub take_all : (n : ℕ) (xs : List X) → length xs ≤ n → take n xs ≡ xs
  take_all zero [] l = refl
  take_all zero (x ∷ xs) l = absurd (omega arith)
  take_all (suc n) [] l = refl
  take_all (suc n) (x ∷ xs) l = ap (λ (ys : List X). x ∷ ys) (take_all n xs (omega arith))

module _ {A : Type 0} (P : A → Type 0) where
  all_left : (xs ys : List A) → All P (xs ++ ys) → All P xs
  all_left [] ys h k d l = absurd (omega arith)
  all_left (x ∷ xs) ys h zero d l = h zero d (omega arith)
  all_left (x ∷ xs) ys h (suc k) d l = all_left xs ys (All-tail P x (xs ++ ys) h) k d (omega arith)

  all_right : (xs ys : List A) → All P (xs ++ ys) → All P ys
  all_right [] ys h = h
  all_right (x ∷ xs) ys h = all_right xs ys (All-tail P x (xs ++ ys) h)

module _ {X A : Type 0} (f : X → List A) where
  -- What the next one adds.
  pub flat_more : (n : ℕ) (xs : List X) (d : X) → n < length xs → flat_map f (take (n + 1) xs) ≡ flat_map f (take n xs) ++ f (get_or xs n d)
  flat_more n xs d l =
      ap (λ (ys : List X). flat_map f ys) (take_more xs n d l) ∙ flat_map-append f (take n xs) (get_or xs n d ∷ [])
      ∙ ap (λ (ys : List A). flat_map f (take n xs) ++ ys) (append-nil (f (get_or xs n d)))

  -- What holds of all that is added holds of what one adds.
  pub all_at : (P : A → Type 0) (n : ℕ) (xs : List X) (d : X) → n < length xs → All P (flat_map f xs) → All P (f (get_or xs n d))
  all_at P n [] d l h = absurd (omega arith)
  all_at P zero (x ∷ xs) d l h = all_left P (f x) (flat_map f xs) h
  all_at P (suc n) (x ∷ xs) d l h = all_at P n xs d (omega arith) (all_right P (f x) (flat_map f xs) h)
