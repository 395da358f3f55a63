-- Ascending lists of positions.
use Rattle.std.specs.Prelude.{ℕ, ◌<◌, nat_lt, List, [], ◌∷◌, max, if◌then◌else◌}

-- The greatest of the numbers that are below n, else 0.
abbrev pub greatest_below : List ℕ → ℕ → ℕ
greatest_below [] n = 0
greatest_below (x ∷ xs) n = if nat_lt x n then max x (greatest_below xs n) else greatest_below xs n

-- Each of the numbers is above n.
abbrev pub AreAbove : ℕ → List ℕ → Type 0
AreAbove n [] = Unit {0}
AreAbove n (x ∷ xs) = (n < x) × AreAbove n xs

-- Each number is below all that follow.
abbrev pub IsAscending : List ℕ → Type 0
IsAscending [] = Unit {0}
IsAscending (x ∷ xs) = AreAbove x xs × IsAscending xs
