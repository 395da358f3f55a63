-- What the lines of a file of keys say.
use Rattle.std.specs.Prelude.{◌≡◌, ℕ, suc, Bool, ◌==◌, ◌||◌, List, [], ◌∷◌, take, drop, Option, Some, None, Ok}
use Rattle.std.specs.List.{AllPass}
use Rattle.hex.specs.Hex.{decode_sized}
use Rattle.sv_ending.specs.Numbers.{number_between}
use Rattle.sv_keys.specs.Cuts.{before, behind}
use Rattle.sv_keys.specs.declared.line.KeyRow.{KeyRow}
use Rattle.sv_keys.specs.declared.line.Line.{Line}
use Rattle.sv_keys.specs.declared.line.Line.TheVariants as lines

-- A space, a tab or a carriage return.
abbrev pub is_blank : ℕ → Bool
is_blank b = b == 32 || (b == 9 || b == 13)

-- A client's number, one space, and the 64 hexadecimal digits of its key's digest. Blanks may stand behind.
pub record IsRow (text : List ℕ) (row : KeyRow) : Type 0 where
  pub client : number_between 0 65535 (before 32 text) ≡ Some row.client.0
  pub digest : decode_sized (take 64 (behind 32 text)) 32 ≡ Ok row.digest
  pub rest : AllPass is_blank (drop 64 (behind 32 text))

-- What a line says before its comment: nothing, or a key.
abbrev pub Says : List ℕ → Option KeyRow → Type 0
Says line None = AllPass is_blank (before 35 line)
Says line (Some row) = IsRow (before 35 line) row

abbrev pub IsLine : List ℕ → Line → Type 0
IsLine line lines.Blank = Says line None
IsLine line (lines.Key row) = Says line (Some row)
IsLine line lines.Wrong = (said : Option KeyRow) → ¬ Says line said

-- The keys of a text are those of its lines, in order.
pub data AreKeys : List ℕ → List KeyRow → Type 0 where
  none : AreKeys [] []
  blank : {text : List ℕ} {rows : List KeyRow} → Says (before 10 text) None → AreKeys (behind 10 text) rows → AreKeys text rows
  key : {text : List ℕ} {row : KeyRow} {rows : List KeyRow} → Says (before 10 text) (Some row) → AreKeys (behind 10 text) rows → AreKeys text (row ∷ rows)

-- The number of the first line that says nothing that a line may say. Lines count from 1.
pub data IsWrongAt : List ℕ → ℕ → Type 0 where
  here : {text : List ℕ} → ((said : Option KeyRow) → ¬ Says (before 10 text) said) → IsWrongAt text 1
  later : {text : List ℕ} {n : ℕ} (said : Option KeyRow) → Says (before 10 text) said → IsWrongAt (behind 10 text) n → IsWrongAt text (suc n)
