-- What the words that the program is called with ask for.
use Rattle.std.specs.Prelude.{ℕ, ◌≤◌, List, [], ◌∷◌, Option, Some, None, option_map, option_and_then, codes, if◌then◌else◌}
use Rattle.std.specs.Str.{bytes_eq}
use Rattle.sv_gen.specs.Generated.{most_load}
use Rattle.sv_ending.specs.Numbers.{number_between}
use Rattle.sv_run.specs.declared.words.RunCommand.{RunCommand}
use Rattle.sv_run.specs.declared.words.RunCommand.TheVariants as commands
use Rattle.sv_run.specs.declared.words.Form.{Form}
use Rattle.sv_run.specs.declared.words.Form.TheVariants as forms

-- What is asked for, with the name of a file as a text.
pub data Asked : Type 0 where
  Play : (file : List ℕ) (form : Form) → Asked
  Replay : (file : List ℕ) → Asked
  Load : (size : ℕ) → Asked

abbrev pub asked_by : RunCommand → Asked
asked_by (commands.Play file form) = Play file.now form
asked_by (commands.Replay file) = Replay file.now
asked_by (commands.Load size) = Load size

abbrev pub IsSize : ℕ → Type 0
IsSize n = (1 ≤ n) × (n ≤ most_load)

abbrev pub IsSized : RunCommand → Type 0
IsSized (commands.Load size) = IsSize size
IsSized _ = Unit {0}

-- The size that a text writes: 1 to 192, without leading zeros.
abbrev pub size_of : List ℕ → Option ℕ
size_of text = number_between 1 most_load text

abbrev pub form_of : List ℕ → Option Form
form_of text = if bytes_eq text (codes "--brief") then Some forms.Brief
    else (if bytes_eq text (codes "--watch") then Some forms.Watch else None)

-- `play FILE`, `replay FILE` and `load N`
abbrev pub of_two : List ℕ → List ℕ → Option Asked
of_two word text = if bytes_eq word (codes "play") then Some (Play text forms.Report)
    else (if bytes_eq word (codes "replay") then Some (Replay text)
    else (if bytes_eq word (codes "load") then option_map Load (size_of text) else None))

-- `play FILE --brief` and `play FILE --watch`
abbrev pub of_three : List ℕ → List ℕ → List ℕ → Option Asked
of_three word file form = if bytes_eq word (codes "play") then option_map (Play file) (form_of form) else None

-- What words ask for. All others than these ask for nothing.
abbrev pub asked_of : List (List ℕ) → Option Asked
asked_of (word ∷ text ∷ []) = of_two word text
asked_of (word ∷ file ∷ form ∷ []) = of_three word file form
asked_of _ = None

-- The file that is named.
abbrev pub file_of : Asked → Option (List ℕ)
file_of (Play file form) = Some file
file_of (Replay file) = Some file
file_of (Load size) = None

abbrev pub named_by : Option Asked → Option (List ℕ)
named_by asked = option_and_then file_of asked

abbrev pub words_line : List ℕ
words_line = codes "words: play FILE [--brief | --watch] | replay FILE | load N\n"
