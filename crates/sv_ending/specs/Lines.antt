-- Lines, with their ends.
use Rattle.std.specs.Prelude.{ℕ, List, [], ◌∷◌, ◌++◌, codes}

-- A line of a text, with its end.
abbrev pub ended_line : List ℕ → List ℕ
ended_line line = line ++ 10 ∷ []

-- The line that names a file that can't be read.
abbrev pub file_line : List ℕ → List ℕ
file_line name = codes "file: " ++ name ++ codes "\n"
