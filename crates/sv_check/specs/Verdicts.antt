-- What a check says of a text.
use Rattle.std.specs.Prelude.{ℕ, List}
use Rattle.sv_scenario.specs.declared.scenario.Scenario.{Scenario}
use Rattle.sv_check.specs.declared.verdict.Verdict.{Verdict}
use Rattle.sv_check.specs.declared.verdict.Verdict.TheVariants as verdicts
use Rattle.sv_check.specs.Either.{IsRightOf}
use Rattle.sv_check.specs.Wrong.{IsFirstWrong}

-- A verdict is right: yes of the very run, or the very journal, that the text tells; else the first wrong line.
abbrev pub IsVerdict : Scenario → List ℕ → Verdict → Type 0
IsVerdict scenario text (verdicts.Yes played) = IsRightOf scenario text played
IsVerdict scenario text (verdicts.No line) = IsFirstWrong scenario text line
