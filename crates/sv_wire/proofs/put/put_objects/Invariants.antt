-- The loop invariant of `put_objects`.
use Rattle.std.proofs.Common.{◌≡◌, ◌++◌, take, flat_map}
use Rattle.sv_wire.specs.Spelling.{object_bytes}
use Rattle.sv_wire.proofs.put.put_objects.Given as goal

abbrev pub invariant-loop-object : goal.invariant-loop-object
invariant-loop-object l = l.out.items ≡ l.fn.out.items ++ flat_map object_bytes (take l.object-index l.objects)
