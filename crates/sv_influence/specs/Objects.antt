-- Sets of objects, one bit for each that there may be.
use Rattle.std.specs.Prelude.{ℕ, ◌/◌, ◌%◌, Bool, ◌==◌, List, slice_index}
use Rattle.std.specs.Int.{bit_at}

-- The set has the object.
abbrev pub has_object : List ℕ → ℕ → Bool
has_object words x = bit_at (slice_index words (x / 64)) (x % 64) == 1
