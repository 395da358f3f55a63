-- What the words that the call is given ask for.
use Rattle.std.specs.Prelude.{ℕ, List, [], ◌∷◌, Option, None, option_map, codes, if◌then◌else◌}
use Rattle.std.specs.Str.{bytes_eq}
use Rattle.sv_ending.specs.Numbers.{number_between}
use Rattle.sv_serve.specs.declared.words.ServeCommand.{ServeCommand}

-- To serve the scenario of a file at a port.
pub record Asked : Type 0 where
  pub file : List ℕ
  pub port : ℕ

abbrev pub asked_by : ServeCommand → Asked
asked_by command = record { file = command.file.now; port = command.port }

-- `serve FILE PORT`, with PORT from 1 to 65535 without leading zeros. All other words ask for nothing.
abbrev pub asked_of : List (List ℕ) → Option Asked
asked_of (word ∷ file ∷ port ∷ []) =
    if bytes_eq word (codes "serve") then option_map (λ n. record { file = file; port = n }) (number_between 1 65535 port) else None
asked_of _ = None

-- The file that is named.
abbrev pub named_by : Option Asked → Option (List ℕ)
named_by asked = option_map (λ (a : Asked). a.file) asked

abbrev pub words_line : List ℕ
words_line = codes "words: serve FILE PORT\n"
