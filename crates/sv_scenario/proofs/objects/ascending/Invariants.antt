-- What is left, behind what was read, gives what all gives.
use Rattle.std.proofs.Common.{◌≡◌, [], length}
use Rattle.serde_json.specs.View.{items_view}
use Rattle.sv_scenario.specs.Objects.{ascending_from}
use Rattle.sv_scenario.proofs.objects.ascending.Given as goal

abbrev pub invariant-loop-rest : goal.invariant-loop-rest
invariant-loop-rest l = ascending_from l.objects l.least l.all.items (items_view l.rest) ≡ ascending_from l.objects 0 [] (items_view l.values)

abbrev pub decreases-loop-rest : goal.decreases-loop-rest
decreases-loop-rest l = length l.rest
