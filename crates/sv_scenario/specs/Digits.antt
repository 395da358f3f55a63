-- One or two digits; for private clauses.
use Rattle.std.specs.Prelude.{ℕ, ◌+◌, ◌-◌, ◌*◌, List, [], ◌∷◌}

-- the number that they write, whatever bytes they are
abbrev pub two_digits : List ℕ → ℕ
two_digits [] = 0
two_digits (ones ∷ []) = ones - 48
two_digits (tens ∷ ones ∷ more) = 10 * (tens - 48) + (ones - 48)
