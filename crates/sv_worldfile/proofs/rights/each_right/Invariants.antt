-- What is left, behind what was read, gives what all gives.
use Rattle.std.proofs.Common.{◌≡◌, [], length}
use Rattle.serde_json.specs.View.{items_view}
use Rattle.sv_scenario.specs.Faults.{each}
use Rattle.sv_worldfile.specs.Rights.{right_of}
use Rattle.sv_worldfile.proofs.rights.each_right.Given as goal

abbrev pub invariant-loop-rest : goal.invariant-loop-rest
invariant-loop-rest l = each (right_of l.objects) l.all.items (items_view l.rest) ≡ each (right_of l.objects) [] (items_view l.values)

abbrev pub decreases-loop-rest : goal.decreases-loop-rest
decreases-loop-rest l = length l.rest
