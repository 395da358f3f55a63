-- The first wrong line of a text that is not right.
use Rattle.std.specs.Prelude.{◌≡◌, ◌≢◌, ℕ, suc, List, [], ◌∷◌, ◌++◌, All}
use Rattle.sv_lines.specs.Lines.{line_ends}
use Rattle.sv_scenario.specs.declared.scenario.Scenario.{Scenario}
use Rattle.sv_check.specs.Either.{IsRight, IsPart}

-- Of texts of a kind, with their parts: the line that comes next after the text `before` is wrong. It is no further line of a part, or it has
-- no line end, or there is none where the text is not whole.
pub record IsWrongNext (Part Whole : List ℕ → Type 0) (before rest : List ℕ) : Type 0 where
  pub line : (line next : List ℕ) → All (λ byte. byte ≢ 10) line → rest ≡ line ++ 10 ∷ next → Part (before ++ line ++ 10 ∷ []) → ⊥
  pub unfinished : rest ≡ [] → Whole before → ⊥

-- Line n is the first wrong one, counted from 1, where the place after the last line counts as a line: the lines before it are a part of a
-- report, or of what `serve` prints, and with it they are a part of neither. So the text is not right. Of each text that `check` may be given
-- only one line is this (`first_wrong_lines_are_equal`).
pub record IsFirstWrong (scenario : Scenario) (text : List ℕ) (n : ℕ) : Type 0 where
  pub before : List ℕ
  pub rest : List ℕ
  pub split : text ≡ before ++ rest
  pub number : n ≡ suc (line_ends before)
  pub part : IsPart scenario before
  pub wrong : IsWrongNext (IsPart scenario) (IsRight scenario) before rest
  pub none : IsRight scenario text → ⊥
