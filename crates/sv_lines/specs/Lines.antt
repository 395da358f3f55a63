-- The lines of a text, each with its line end.
use Rattle.std.specs.Prelude.{◌≡◌, ◌≢◌, ℕ, zero, suc, ◌+◌, ◌<◌, Bool, ◌==◌, not, nat_lt, cond, List, [], ◌∷◌, ◌++◌, length, take, drop}
use Rattle.std.specs.List.{prefix_len}
use Rattle.sv_lines.specs.declared.stop.LineStop.{LineStop}
use Rattle.sv_lines.specs.declared.stop.LineStop.TheVariants as stop

-- A byte that ends no line.
abbrev pub is_inner : ℕ → Bool
is_inner b = not (b == 10)

-- How many bytes the first line has; a last line may have no line end.
abbrev pub line_width : List ℕ → ℕ
line_width text = cond (nat_lt (prefix_len is_inner text) (length text)) (prefix_len is_inner text + 1) (prefix_len is_inner text)

-- What is left after so many lines.
abbrev pub after_lines : ℕ → List ℕ → List ℕ
after_lines zero text = text
after_lines (suc n) text = after_lines n (drop (line_width text) text)

-- How many line ends a text has.
abbrev pub line_ends : List ℕ → ℕ
line_ends [] = 0
line_ends (byte ∷ text) = cond (byte == 10) (suc (line_ends text)) (line_ends text)

-- A text has to begin with some lines, and does not: after the first n, which it has, comes another than the next one.
pub record Differs (text lines : List ℕ) (left : ℕ) : Type 0 where
  pub n : ℕ
  pub same : List ℕ
  pub after : List ℕ
  pub lines_are : lines ≡ same ++ after_lines n lines
  pub text_is : text ≡ same ++ after
  pub more : 0 < length (after_lines n lines)
  pub differ : (rest : List ℕ) → after ≢ take (line_width (after_lines n lines)) (after_lines n lines) ++ rest
  pub left_is : left ≡ length after

-- Why taking them stopped.
abbrev pub StopsAt : List ℕ → List ℕ → LineStop → Type 0
StopsAt text lines (stop.Wrong left) = Differs text lines left
StopsAt text lines stop.Memory = ⊥
