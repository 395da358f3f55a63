-- Lists by their places.
use Rattle.std.specs.Prelude.{◌≡◌, ℕ, List, slice_get, Some}

-- this holds of each element and its place
abbrev pub EachPlace : {X : Type 0} → (ℕ → X → Type 0) → List X → Type 0
EachPlace {X = X} P xs = (k : ℕ) (x : X) → slice_get xs k ≡ Some x → P k x
