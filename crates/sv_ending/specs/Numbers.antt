-- The numbers among the words of a call.
use Rattle.std.specs.Prelude.{◌≡◌, ◌⊎◌, ◌≤◌, ℕ, List, Option, Some, None, codes, slice_index_or, nat_le, ◌&&◌, if◌then◌else◌}
use Rattle.std.specs.Fmt.{decimal}
use Rattle.std.specs.Str.{bytes_eq}
use Rattle.std.specs.Str.Parse.{digits_value}

-- The number, where it is within the bounds and this text is its decimal.
abbrev pub number_if : ℕ → ℕ → ℕ → List ℕ → Option ℕ
number_if least most n text = if nat_le least n && nat_le n most && bytes_eq text (decimal n) then Some n else None

-- The number that a text writes, where it is within the bounds: its decimal, without leading zeros.
abbrev pub number_between : ℕ → ℕ → List ℕ → Option ℕ
number_between least most text = number_if least most (digits_value 10 text) text

-- A text begins with a digit, which is 0 only where it stands alone; for private clauses.
abbrev pub IsPlain : List ℕ → Type 0
IsPlain text = (text ≡ codes "0") ⊎ ((49 ≤ slice_index_or text 0 0) × (slice_index_or text 0 0 ≤ 57))
