-- The lines of the input.
use Rattle.std.specs.Prelude.{◌≡◌, ◌⊎◌, ℕ, ◌==◌, ◌||◌, Bool, true, false, List, [], ◌∷◌, ◌++◌, Option, Some, None, codes, if◌then◌else◌}
use Rattle.std.specs.Str.{bytes_eq}
use Rattle.std.specs.Option.{option_copied}
use Rattle.sv_ports.specs.Traffic.{Traffic}
use Rattle.sv_host.specs.declared.input.InputLines.{InputLines}

-- The line that has no end yet, once these bytes came behind the front of one.
abbrev pub unended : List ℕ → List ℕ → List ℕ
unended line [] = line
unended line (byte ∷ bytes) = if byte == 10 then unended [] bytes else unended (line ++ byte ∷ []) bytes

-- Whether one of the lines is `stop` that are whole once these bytes came behind the front of one.
abbrev pub has_stop : List ℕ → List ℕ → Bool
has_stop line [] = false
has_stop line (byte ∷ bytes) = if byte == 10 then bytes_eq line (codes "stop") || has_stop [] bytes else has_stop (line ++ byte ∷ []) bytes

-- What a word has behind a front of it; for private clauses.
abbrev pub behind : List ℕ → List ℕ → Option (List ℕ)
behind [] word = Some word
behind (byte ∷ line) [] = None
behind (byte ∷ line) (next ∷ word) = if byte == next then behind line word else None

-- whether nothing is left, of what there is; for private clauses
abbrev pub is_nothing : Option (List ℕ) → Bool
is_nothing (Some []) = true
is_nothing (Some (byte ∷ rest)) = false
is_nothing None = false

-- The input ended, or one of its lines was `stop`.
abbrev pub WasToldToStop : Traffic → Type 0
WasToldToStop told = (told.input_ended ≡ true) ⊎ (has_stop [] told.input ≡ true)

-- The line that has no end yet is this.
pub record IsAtLine (input : InputLines) (line : List ℕ) : Type 0 where
  pub wanted_is : option_copied input.wanted ≡ behind line (codes "stop")

-- It stands where the input was read to.
abbrev pub IsReadTo : Traffic → InputLines → Type 0
IsReadTo told input = IsAtLine input (unended [] told.input)
