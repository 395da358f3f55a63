-- The text of a segment: the whole lines that stand before its first zero byte.
use Rattle.std.specs.Prelude.{◌≡◌, ◌⊎◌, ℕ, Bool, true, false, cond, ◌==◌, List, [], ◌∷◌, ◌++◌, Option, Some, None}

-- a line ends here, before any zero byte
abbrev pub has_line : List ℕ → Bool
has_line [] = false
has_line (b ∷ bytes) = cond (b == 0) false (cond (b == 10) true (has_line bytes))

-- the whole lines before the first zero byte
abbrev pub whole : List ℕ → List ℕ
whole [] = []
whole (b ∷ bytes) = cond (has_line (b ∷ bytes)) (b ∷ whole bytes) []

-- whole lines alone, with no zero byte
abbrev pub IsText : List ℕ → Type 0
IsText text = whole text ≡ text

abbrev pub whole_in : Option (List ℕ) → List ℕ
whole_in None = []
whole_in (Some bytes) = whole bytes

-- a text goes on from this one
abbrev pub IsFront : List ℕ → List ℕ → Type 0
IsFront front text = (more : List ℕ) × (text ≡ front ++ more)

-- each byte is the one that was written, or is lost and a zero
abbrev pub Masked : List ℕ → List ℕ → Type 0
Masked [] [] = Unit {0}
Masked (b ∷ bytes) (t ∷ torn) = ((t ≡ 0) ⊎ (t ≡ b)) × Masked bytes torn
Masked bytes torn = ⊥
