-- What the words of a join ask for.
use Rattle.std.specs.Prelude.{ℕ, List, [], ◌∷◌, Option, Some, None, option_map, codes, if◌then◌else◌}
use Rattle.std.specs.Str.{bytes_eq}
use Rattle.sv_ending.specs.Numbers.{number_between}
use Rattle.sv_join.specs.declared.words.Join.{Join}

-- The scenario's file, the number of the client that is to be played, and the server's port.
pub record Asked : Type 0 where
  pub file : List ℕ
  pub number : ℕ
  pub port : ℕ

abbrev pub asked_by : Join → Asked
asked_by join = record { file = join.file.now; number = join.number; port = join.port }

abbrev pub asked_if : List ℕ → Option ℕ → Option ℕ → Option Asked
asked_if file (Some number) (Some port) = Some (record { file = file; number = number; port = port })
asked_if file _ _ = None

-- `join FILE K PORT`, where K is at most 65,535, and PORT as much and not 0. All other words ask for nothing.
abbrev pub asked_of : List (List ℕ) → Option Asked
asked_of (word ∷ file ∷ number ∷ port ∷ []) =
    if bytes_eq word (codes "join") then asked_if file (number_between 0 65535 number) (number_between 1 65535 port) else None
asked_of _ = None

-- The file that is named.
abbrev pub named_by : Option Asked → Option (List ℕ)
named_by asked = option_map (λ (a : Asked). a.file) asked

abbrev pub words_line : List ℕ
words_line = codes "words: join FILE K PORT\n"
