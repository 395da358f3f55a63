-- What the words of a call ask for.
use Rattle.std.specs.Prelude.{ℕ, List, [], ◌∷◌, Option, Some, None, option_map, codes, if◌then◌else◌}
use Rattle.std.specs.Str.{bytes_eq}
use Rattle.sv_ending.specs.Numbers.{number_between}
use Rattle.sv_witness.specs.declared.words.Witnessing.{Witnessing}

-- The scenario's file, and the number of the client that lies, if one is to lie.
pub record Asked : Type 0 where
  pub file : List ℕ
  pub liar : Option ℕ

abbrev pub asked_by : Witnessing → Asked
asked_by w = record { file = w.file.now; liar = w.liar }

-- The words ask for a liar of this number, where they write one.
abbrev pub with_liar : List ℕ → Option ℕ → Option Asked
with_liar file None = None
with_liar file (Some liar) = Some (record { file = file; liar = Some liar })

-- `witness FILE` and `witness FILE K`, where K is at most 65,535. All other words ask for nothing.
abbrev pub asked_of : List (List ℕ) → Option Asked
asked_of (word ∷ file ∷ []) = if bytes_eq word (codes "witness") then Some (record { file = file; liar = None }) else None
asked_of (word ∷ file ∷ number ∷ []) = if bytes_eq word (codes "witness") then with_liar file (number_between 0 65535 number) else None
asked_of _ = None

-- The file that is named.
abbrev pub named_by : Option Asked → Option (List ℕ)
named_by asked = option_map (λ (a : Asked). a.file) asked

abbrev pub words_line : List ℕ
words_line = codes "words: witness FILE [K]\n"
