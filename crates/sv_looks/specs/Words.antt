-- What the words that the call is given ask for.
use Rattle.std.specs.Prelude.{ℕ, List, [], ◌∷◌, Option, Some, None, codes, if◌then◌else◌}
use Rattle.std.specs.Str.{bytes_eq}

-- The file whose scenario's snapshots are asked for: `looks FILE`. All other words ask for nothing.
abbrev pub asked_of : List (List ℕ) → Option (List ℕ)
asked_of (word ∷ file ∷ []) = if bytes_eq word (codes "looks") then Some file else None
asked_of _ = None

abbrev pub words_line : List ℕ
words_line = codes "words: looks FILE\n"
