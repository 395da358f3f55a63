-- What is read of a file, and whether that is a scenario.
use Rattle.std.specs.Prelude.{◌≡◌, ℕ, ◌+◌, List, take, Option, Some, None, Ok, Err, option_and_then}
use Rattle.sv_scenario.specs.declared.fault.ScenarioFault.{ScenarioFault}
use Rattle.sv_scenario.specs.declared.scenario.Scenario.{Scenario}
use Rattle.sv_scenario.specs.Lines.{fault_line}
use Rattle.sv_scenario.specs.Scenarios.{most_scenario_bytes, scenario_of}

-- A file is read so far and no further: one byte more than a scenario may have.
abbrev pub read_limit : ℕ
read_limit = most_scenario_bytes + 1

-- What the file that is named holds, where there is one and that is told.
abbrev pub held_by_file : (List ℕ → Option (List ℕ)) → Option (List ℕ) → Option (List ℕ)
held_by_file contents named = option_and_then contents named

-- The bytes that were read of a file, by what it holds, where that is told.
abbrev pub IsFileFront : Option (List ℕ) → List ℕ → Type 0
IsFileFront (Some all) bytes = bytes ≡ take read_limit all
IsFileFront None bytes = Unit {0}

-- What was read of the file is this scenario.
pub record IsRead (held : Option (List ℕ)) (scenario : Scenario) : Type 0 where
  pub bytes : List ℕ
  pub front : IsFileFront held bytes
  pub read : scenario_of bytes ≡ Ok scenario

-- What was read of the file is no scenario, and this line tells of its first fault.
pub record IsRefused (held : Option (List ℕ)) (line : List ℕ) : Type 0 where
  pub bytes : List ℕ
  pub front : IsFileFront held bytes
  pub fault : ScenarioFault
  pub faulty : scenario_of bytes ≡ Err fault
  pub told : line ≡ fault_line fault

-- These bytes are no scenario, and this line tells of their first fault.
pub record IsFaulty (bytes line : List ℕ) : Type 0 where
  pub fault : ScenarioFault
  pub faulty : scenario_of bytes ≡ Err fault
  pub told : line ≡ fault_line fault

-- The bytes are a scenario.
pub record IsScenario (bytes : List ℕ) : Type 0 where
  pub scenario : Scenario
  pub read : scenario_of bytes ≡ Ok scenario

-- The bytes are none.
pub record IsNoScenario (bytes : List ℕ) : Type 0 where
  pub fault : ScenarioFault
  pub faulty : scenario_of bytes ≡ Err fault

-- The file is told to hold a scenario.
abbrev pub HoldsScenario : Option (List ℕ) → Type 0
HoldsScenario (Some all) = IsScenario (take read_limit all)
HoldsScenario None = ⊥
