-- The loop invariant of `base_values`.
use Rattle.std.proofs.Common.{◌≡◌, map, take}
use Rattle.sv_world.specs.declared.world.ObjectId.{ObjectId}
use Rattle.sv_core.specs.Relays.{held_in}
use Rattle.sv_core.proofs.relays.base_values.Given as goal

abbrev pub invariant-loop-object : goal.invariant-loop-object
invariant-loop-object l = l.head.items ≡ held_in l.queue (map (λ (o : ObjectId). o.0) (take l.object-index l.objects))
