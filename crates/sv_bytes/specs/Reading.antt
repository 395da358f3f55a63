-- What reading a file means. Contents and what is left are None where the object doesn't tell them.
use Rattle.std.specs.Prelude.{◌≡◌, ℕ, ◌<◌, ◌≤◌, Bool, true, false, List, [], length, take, drop, ◌++◌, Option, Some, None}
use Rattle.sv_bytes.specs.declared.reading.Begun.{Begun}
use Rattle.sv_bytes.specs.declared.reading.Begun.TheVariants.{Ready, Failed, Memory}
use Rattle.sv_bytes.specs.declared.reading.Read.{Read}
use Rattle.sv_bytes.specs.declared.reading.Read.TheVariants as read

-- whether `begin` answered Ready
abbrev pub is_ready : Begun → Bool
is_ready Ready = true
is_ready Failed = false
is_ready Memory = false

-- a file that was begun is at its start: all of its contents are left
abbrev pub BeginsAt : Option (List ℕ) → Option (List ℕ) → Begun → Type 0
BeginsAt contents left Ready = left ≡ contents
BeginsAt contents left Failed = Unit {0}
BeginsAt contents left Memory = Unit {0}

-- a read into so many bytes gives at least one, and no more than that
abbrev pub IsPiece : ℕ → Read → Type 0
IsPiece size (read.Got n) = (0 < n) × (n ≤ size)
IsPiece size read.Ended = Unit {0}
IsPiece size read.Failed = Unit {0}

-- `into` begins with the next n bytes, and the rest is left
abbrev pub GetsBytes : Option (List ℕ) → Option (List ℕ) → List ℕ → ℕ → Type 0
GetsBytes (Some bytes) left into n = (n ≤ length bytes) × (take n into ≡ take n bytes) × (left ≡ Some (drop n bytes))
GetsBytes None left into n = left ≡ None

-- nothing is left
abbrev pub IsAtEnd : Option (List ℕ) → Option (List ℕ) → Type 0
IsAtEnd (Some bytes) left = (bytes ≡ []) × (left ≡ Some [])
IsAtEnd None left = left ≡ None

-- what a read gave: the next bytes, the end exactly where nothing is left, or nothing
abbrev pub ReadsNext : Option (List ℕ) → Option (List ℕ) → List ℕ → Read → Type 0
ReadsNext before left into (read.Got n) = GetsBytes before left into n
ReadsNext before left into read.Ended = IsAtEnd before left
ReadsNext before left into read.Failed = left ≡ before

-- `bytes` are the first `limit` bytes of the contents, and just the others are left
abbrev pub ReadsFront : Option (List ℕ) → ℕ → List ℕ → Option (List ℕ) → Type 0
ReadsFront (Some all) limit bytes left = (bytes ≡ take limit all) × (left ≡ Some (drop limit all))
ReadsFront None limit bytes left = left ≡ None

-- `bytes` were read so far, and just the rest is left
abbrev pub ReadSoFar : Option (List ℕ) → List ℕ → Option (List ℕ) → Type 0
ReadSoFar (Some all) bytes left = (rest : List ℕ) × (left ≡ Some rest) × (bytes ++ rest ≡ all)
ReadSoFar None bytes left = left ≡ None
