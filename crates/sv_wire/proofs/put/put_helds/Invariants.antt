-- The loop invariant of `put_helds`.
use Rattle.std.proofs.Common.{◌≡◌, ◌++◌, take, flat_map}
use Rattle.sv_wire.specs.Spelling.{held_bytes}
use Rattle.sv_wire.proofs.put.put_helds.Given as goal

abbrev pub invariant-loop-held : goal.invariant-loop-held
invariant-loop-held l = l.out.items ≡ l.fn.out.items ++ flat_map held_bytes (take l.held-index l.head)
