-- Texts of either kind: reports, and what `serve` prints.
use Rattle.std.specs.Prelude.{◌⊎◌, ℕ, List}
use Rattle.sv_scenario.specs.declared.scenario.Scenario.{Scenario}
use Rattle.law_system.specs.declared.played.Played.{Played}
use Rattle.sv_check.specs.Consistent.{IsReport, IsReportOf}
use Rattle.sv_check.specs.Bare.{IsBare, IsBareOf}
use Rattle.sv_check.specs.Parts.{IsReportPart}

-- The text is right: it is the report of a consistent run, or what `serve` prints of a whole journal.
abbrev pub IsRight : Scenario → List ℕ → Type 0
IsRight scenario text = IsReport scenario text ⊎ IsBare scenario text

-- It is right, and this is what it tells: without traces it is what `serve` prints.
abbrev pub IsRightOf : Scenario → List ℕ → Played → Type 0
IsRightOf scenario text played = IsReportOf scenario text played ⊎ IsBareOf scenario text played

-- Some first lines of a text of either kind, with nothing wrong so far.
abbrev pub IsPart : Scenario → List ℕ → Type 0
IsPart scenario text = IsReportPart scenario text ⊎ IsBare scenario text
