-- What is left, behind what was read, gives what all gives.
use Rattle.std.proofs.Common.{◌≡◌, [], length}
use Rattle.serde_json.specs.View.{items_view}
use Rattle.sv_scenario.specs.Scripts.{steps_from}
use Rattle.sv_scenario.proofs.steps.each_step.Given as goal

abbrev pub invariant-loop-rest : goal.invariant-loop-rest
invariant-loop-rest l = steps_from l.shape l.all.items (items_view l.rest) ≡ steps_from l.shape [] (items_view l.values)

abbrev pub decreases-loop-rest : goal.decreases-loop-rest
decreases-loop-rest l = length l.rest
