-- The values so far and those of the objects left are all.
use Rattle.std.proofs.Common.{◌≡◌, ◌++◌, map, drop}
use Rattle.sv_world.specs.declared.world.ObjectId.{ObjectId}
use Rattle.sv_eval.specs.Serial.{values_at}
use Rattle.sv_why.proofs.execution.values_at.Given as goal

abbrev pub invariant-loop-object : goal.invariant-loop-object
invariant-loop-object l = l.values.items ++ values_at l.world (map (λ (o : ObjectId). o.0) (drop l.object-index l.objects)) ≡ values_at l.world (map (λ (o : ObjectId). o.0) l.objects)
