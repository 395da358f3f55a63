-- Things under numbers.
use Rattle.std.specs.Prelude.{◌≡◌, ℕ, ◌<◌, Bool, false, ◌||◌, ◌==◌, not, List, [], ◌∷◌, map, filter, length, slice_index_or, All, Option, Some, None, if◌then◌else◌}
use Rattle.sv_ports.specs.declared.numbered.NumberedPlace.{NumberedPlace}

module _ {T : Type 0} where
  -- Each number is below all behind it.
  abbrev pub IsByNumber : List (NumberedPlace T) → Type 0
  IsByNumber [] = Unit {0}
  IsByNumber (p ∷ ps) = All (λ (q : NumberedPlace T). p.number < q.number) ps × IsByNumber ps

  -- All numbers are below it.
  abbrev pub IsAbove : ℕ → List (NumberedPlace T) → Type 0
  IsAbove n places = All (λ (p : NumberedPlace T). p.number < n) places

  -- The number has a place.
  abbrev pub has_number : ℕ → List (NumberedPlace T) → Bool
  has_number n [] = false
  has_number n (p ∷ ps) = (n == p.number) || has_number n ps

  -- The number's place is this one.
  abbrev pub IsPlaceOf : ℕ → List (NumberedPlace T) → ℕ → Type 0
  IsPlaceOf n places place = (place < length places) × ((other : NumberedPlace T) → (slice_index_or places place other).number ≡ n)

  -- What lies in the place of a number.
  abbrev pub item_of : ℕ → List (NumberedPlace T) → Option T
  item_of n [] = None
  item_of n (p ∷ ps) = if n == p.number then p.item else item_of n ps

  -- The same places, with this in the number's.
  abbrev pub with_item : ℕ → Option T → List (NumberedPlace T) → List (NumberedPlace T)
  with_item n item places = map (λ (p : NumberedPlace T). if n == p.number then record p { item = item } else p) places

  -- All places but the number's.
  abbrev pub without : ℕ → List (NumberedPlace T) → List (NumberedPlace T)
  without n places = filter (λ (p : NumberedPlace T). not (n == p.number)) places

  -- What holds of each thing with its number.
  abbrev pub AllItems : (ℕ → T → Type 0) → List (NumberedPlace T) → Type 0
  AllItems P places = (n : ℕ) (x : T) → item_of n places ≡ Some x → P n x
