-- How many sessions there are: one for each client, and one more for each of its cuts.
use Rattle.std.specs.Prelude.{ℕ, ◌+◌, List, [], ◌∷◌}
use Rattle.sv_scenario.specs.declared.scenario.Plan.{Plan}
use Rattle.sv_scenario.specs.declared.scenario.Scenario.{Scenario}
use Rattle.sv_scenario.specs.declared.scenario.Step.{Step}
use Rattle.sv_scenario.specs.declared.scenario.Step.TheVariants as steps

abbrev pub cuts_by : Step → ℕ
cuts_by (steps.Act action) = 0
cuts_by steps.Poll = 0
cuts_by (steps.Observe objects) = 0
cuts_by steps.Sync = 0
cuts_by (steps.Show objects) = 0
cuts_by steps.Cut = 1
cuts_by steps.Quit = 0

abbrev pub cuts_in : List Step → ℕ
cuts_in [] = 0
cuts_in (step ∷ ss) = cuts_by step + cuts_in ss

-- The sessions of one client.
abbrev pub sessions_of_plan : Plan → ℕ
sessions_of_plan plan = 1 + cuts_in plan.steps

abbrev pub sessions_in : List Plan → ℕ
sessions_in [] = 0
sessions_in (plan ∷ plans) = sessions_of_plan plan + sessions_in plans

abbrev pub session_count : Scenario → ℕ
session_count scenario = sessions_in scenario.clients
