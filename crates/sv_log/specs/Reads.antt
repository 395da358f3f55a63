-- What is read of a folder.
use Rattle.std.specs.Prelude.{◌≡◌, ℕ, ◌-◌, min, List, length, take, drop, Option, Some, None, Contains, IsSome, ◌↔◌}
use Rattle.sv_log.specs.Pictures.{Picture}

-- `into` begins with the n bytes of the file from an offset on: all that fit or that there are
abbrev pub ReadsPart : Option (List ℕ) → ℕ → List ℕ → ℕ → Type 0
ReadsPart (Some file) at into n = (n ≡ min (length into) (length file - at)) × (take n into ≡ take n (drop at file))
ReadsPart None at into n = ⊥

-- just the names that have a file are listed
abbrev pub Lists : Picture → List (List ℕ) → Type 0
Lists picture names = (n : List ℕ) → Contains names n ↔ IsSome (picture n)
