-- Files in memory, as names with their bytes.
use Rattle.std.specs.Prelude.{ℕ, List, [], ◌∷◌, Option, Some, None, cond}
use Rattle.std.specs.Str.{bytes_eq}

-- what the first file of this name holds
abbrev pub contents_of : List (List ℕ × List ℕ) → List ℕ → Option (List ℕ)
contents_of [] name = None
contents_of (file ∷ files) name = cond (bytes_eq file.0 name) (Some file.1) (contents_of files name)
