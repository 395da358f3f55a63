-- The objects that are left ascend from the last one just where all do.
use Rattle.std.proofs.Common.{◌≡◌, ◌∷◌, map, drop}
use Rattle.sv_world.specs.Faults.{is_ascending}
use Rattle.sv_world.specs.declared.world.ObjectId.{ObjectId}
use Rattle.sv_world.proofs.check.is_ascending.Given as goal

abbrev pub invariant-loop-object : goal.invariant-loop-object
invariant-loop-object l =
    is_ascending (l.last ∷ map (λ (o : ObjectId). o.0) (drop l.object-index l.rest))
    ≡ is_ascending (map (λ (o : ObjectId). o.0) l.objects)
