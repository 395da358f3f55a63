-- That the numbers of a scenario are those of their types.
use Rattle.std.specs.Prelude.{All}
use Rattle.sv_wire.specs.Ranges.{ValueFits, ActionFits}
use Rattle.sv_scenario.specs.declared.scenario.Plan.{Plan}
use Rattle.sv_scenario.specs.declared.scenario.Scenario.{Scenario}
use Rattle.sv_scenario.specs.declared.scenario.Step.{Step}
use Rattle.sv_scenario.specs.declared.scenario.Step.TheVariants as steps

-- The numbers of the action that a step makes.
abbrev pub StepFits : Step → Type 0
StepFits (steps.Act action) = ActionFits action
StepFits _ = Unit {0}

abbrev pub PlanFits : Plan → Type 0
PlanFits plan = All StepFits plan.steps

-- The numbers of the world's values, and of the actions that the clients' scripts make.
pub record ScenarioFits (scenario : Scenario) : Type 0 where
  pub values : All ValueFits scenario.world.values
  pub plans : All PlanFits scenario.clients
