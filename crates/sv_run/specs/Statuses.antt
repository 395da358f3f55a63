-- How a call of `run` ends.
use Rattle.std.specs.Prelude.{◌≡◌, ◌≢◌, ◌⊎◌, ℕ, List, Option, Some, None, string_bytes}
use Rattle.sv_scenario.specs.declared.scenario.Scenario.{Scenario}
use Rattle.sv_threads.specs.Pairs.{Pairing, SettledAll, MatchedAll, OwesAll}
use Rattle.sv_ending.specs.declared.ending.Ending.{Ending}
use Rattle.sv_ending.specs.declared.ending.Ending.TheVariants as endings
use Rattle.sv_ending.specs.Reading.{IsRefused, HoldsScenario}
use Rattle.sv_run.specs.Words.{Asked, Play, Replay, Load}
use Rattle.sv_run.specs.Runs.{IsScenarioFor}

-- ---- What is asked for

-- What is not touched, before and after, and never told of: the net and the crew by a replay, the files by a load, and all three where
-- nothing is asked for.
abbrev pub LeavesAlone : {F N C : Type 0} → Option Asked → ℕ → F → F → N → N → C → C → Type 0
LeavesAlone None status f0 f1 n0 n1 c0 c1 = (f1 ≡ f0) × (n1 ≡ n0) × (c1 ≡ c0)
LeavesAlone (Some (Play file form)) status f0 f1 n0 n1 c0 c1 = Unit {0}
LeavesAlone (Some (Replay file)) status f0 f1 n0 n1 c0 c1 = (n1 ≡ n0) × (c1 ≡ c0) × (status ≢ 6) × (status ≢ 7)
LeavesAlone (Some (Load size)) status f0 f1 n0 n1 c0 c1 = (f1 ≡ f0) × (status ≢ 3) × (status ≢ 4)

-- What became of the pairs of the net: each that was made was settled and matched; or some did not match, at 6; or a thread could not be
-- started, at 7.
abbrev pub SettlesPairs : ℕ → Pairing → Pairing → Type 0
SettlesPairs status old new = MatchedAll old new ⊎ ((status ≡ 6) × SettledAll old new) ⊎ ((status ≡ 7) × OwesAll old new)

-- ---- Before anything is printed

-- What is asked for has a scenario that can be run.
pub record IsReady (asked : Option Asked) (held : Option (List ℕ)) : Type 0 where
  pub command : Asked
  pub command_is : asked ≡ Some command
  pub scenario : Scenario
  pub scenario_is : IsScenarioFor command held scenario

-- An ending without a text. Threads and links are only told of where there was something to run.
abbrev pub EndsEarly : Option Asked → Option (List ℕ) → Ending → Type 0
EndsEarly asked held (endings.Scenario line) = IsRefused held (string_bytes line)
EndsEarly asked held endings.File = Unit {0}
EndsEarly asked held endings.Start = IsReady asked held
EndsEarly asked held endings.Link = IsReady asked held
EndsEarly asked held endings.Memory = Unit {0}
EndsEarly asked held _ = ⊥

-- ---- What can be run

-- What is asked for can be run: a file that is named holds a scenario.
abbrev pub CanRun : Option Asked → Option (List ℕ) → Type 0
CanRun None held = ⊥
CanRun (Some (Play file form)) held = HoldsScenario held
CanRun (Some (Replay file)) held = HoldsScenario held
CanRun (Some (Load size)) held = Unit {0}
