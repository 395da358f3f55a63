-- One of the reads that are left is no object just where one of all is none.
use Rattle.std.proofs.Common.{◌≡◌, map, drop, nat_le}
use Rattle.std.specs.List.{list_any}
use Rattle.sv_world.specs.declared.world.ObjectId.{ObjectId}
use Rattle.sv_world.proofs.check.reads_no_object.Given as goal

abbrev pub invariant-loop-object : goal.invariant-loop-object
invariant-loop-object l =
    list_any (λ x. nat_le l.shape.objects x) (map (λ (o : ObjectId). o.0) (drop l.object-index l.action.reads))
    ≡ list_any (λ x. nat_le l.shape.objects x) (map (λ (o : ObjectId). o.0) l.action.reads)
