-- The scenario that bytes are is good.
use Rattle.sv_scenario.proofs.Kept.{scenario_good}
use Rattle.sv_scenario.proofs.laws.scenarios_keep_the_limits.Goals as goal

pub returns : goal.returns
returns c = scenario_good
