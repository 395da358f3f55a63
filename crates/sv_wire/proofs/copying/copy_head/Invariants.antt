-- The loop invariant of `copy_head`.
use Rattle.std.proofs.Common.{◌≡◌, take}
use Rattle.sv_wire.proofs.copying.copy_head.Given as goal

abbrev pub invariant-loop-held : goal.invariant-loop-held
invariant-loop-held l = l.copies.items ≡ take l.held-index l.head
