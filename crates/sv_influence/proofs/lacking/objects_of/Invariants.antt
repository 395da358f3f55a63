-- The loop invariant of `objects_of`.
use Rattle.std.proofs.Common.{◌≡◌, map, take}
use Rattle.sv_world.specs.declared.world.ObjectId.{ObjectId}
use Rattle.sv_influence.proofs.lacking.objects_of.Given as goal

abbrev pub invariant-loop-number : goal.invariant-loop-number
invariant-loop-number l = map (λ (o : ObjectId). o.0) l.objects.items ≡ take l.number-index l.numbers
