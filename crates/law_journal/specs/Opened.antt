-- What is said of the rules that servers are opened with.
use Rattle.std.specs.Prelude.{◌≡◌, ℕ, List, Ok}
use Rattle.sv_journal.specs.Laws.{AreWithinLimits}
use Rattle.sv_scenario.specs.declared.scenario.Scenario.{Scenario}
use Rattle.sv_scenario.specs.Limits.{IsGoodScenario}
use Rattle.sv_scenario.specs.Scenarios.{scenario_of}
use Rattle.law_system.specs.Records.{rules_of}

-- The rules of a scenario that keeps its limits are within those of rules.
abbrev pub GoodScenariosOpenWithinLimits : Type 0
GoodScenariosOpenWithinLimits = (scenario : Scenario) → IsGoodScenario scenario → AreWithinLimits (rules_of scenario)

-- So are those of each scenario that the bytes of a file are.
abbrev pub FilesOpenWithinLimits : Type 0
FilesOpenWithinLimits = (bytes : List ℕ) (scenario : Scenario) → scenario_of bytes ≡ Ok scenario → AreWithinLimits (rules_of scenario)
