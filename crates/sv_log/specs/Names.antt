-- The names of the files of a log.
use Rattle.std.specs.Prelude.{◌≡◌, ◌≢◌, ◌⊎◌, ℕ, zero, suc, ◌+◌, ◌/◌, ◌%◌, ◌^◌, ◌<◌, List, [], ◌∷◌, ◌++◌, length, codes}
use Rattle.sv_log.specs.Texts.{IsFront}
use Rattle.sv_log.specs.declared.names.FileKind.{FileKind}
use Rattle.sv_log.specs.declared.names.FileKind.TheVariants as file
use Rattle.sv_log.specs.declared.names.NameKind.{NameKind}
use Rattle.sv_log.specs.declared.names.NameKind.TheVariants as kind

-- the last so many decimal digits of a number
unfoldable pub digits : ℕ → ℕ → List ℕ
digits zero n = []
digits (suc k) n = digits k (n / 10) ++ (48 + n % 10) ∷ []

-- these are the digits of a number, as many as it needs or more
abbrev pub HasDigits : List ℕ → ℕ → Type 0
HasDigits bytes n = (n < 10 ^ length bytes) × (bytes ≡ digits (length bytes) n)

-- 20 digits, and the ending
unfoldable pub number_part : ℕ → List ℕ
number_part n = digits 20 n ++ codes ".txt"

abbrev pub segment_kind : List ℕ
segment_kind = codes "journal-"

abbrev pub state_kind : List ℕ
state_kind = codes "state-"

abbrev pub rest_kind : List ℕ
rest_kind = codes "rest-"

abbrev pub segment_name : ℕ → List ℕ
segment_name n = segment_kind ++ number_part n

abbrev pub state_name : ℕ → List ℕ
state_name n = state_kind ++ number_part n

abbrev pub rest_name : ℕ → List ℕ
rest_name n = rest_kind ++ number_part n

abbrev pub world_name : List ℕ
world_name = codes "world.json"

-- the name under which a file is written before it gets its own
abbrev pub new_name : List ℕ
new_name = codes "new"

-- the numbers that a name may have
abbrev pub IsNumber : ℕ → Type 0
IsNumber n = (0 < n) × (n + 1 < 2 ^ 64)

-- it begins as the name of a segment or of a state, and is none
abbrev pub IsWrongName : List ℕ → Type 0
IsWrongName name = (IsFront segment_kind name ⊎ IsFront state_kind name) × ((n : ℕ) → IsNumber n → (name ≢ segment_name n) × (name ≢ state_name n))

-- what a name tells
abbrev pub Tells : NameKind → List ℕ → Type 0
Tells (kind.Segment n) name = IsNumber n × (name ≡ segment_name n)
Tells (kind.State n) name = IsNumber n × (name ≡ state_name n)
Tells kind.Wrong name = IsWrongName name
Tells kind.Other name = (IsFront segment_kind name → ⊥) × (IsFront state_kind name → ⊥)

abbrev pub file_name : FileKind → ℕ → List ℕ
file_name file.Segment n = segment_name n
file_name file.State n = state_name n
