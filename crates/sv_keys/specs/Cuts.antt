-- A text that is cut at the first byte of a kind.
use Rattle.std.specs.Prelude.{ℕ, ◌+◌, ◌==◌, not, List, take, drop}
use Rattle.std.specs.List.{prefix_len}

-- How many bytes stand before the first such byte: all, where there is none.
abbrev pub width_before : ℕ → List ℕ → ℕ
width_before end text = prefix_len (λ b. not (b == end)) text

abbrev pub before : ℕ → List ℕ → List ℕ
before end text = take (width_before end text) text

abbrev pub behind : ℕ → List ℕ → List ℕ
behind end text = drop (width_before end text + 1) text
