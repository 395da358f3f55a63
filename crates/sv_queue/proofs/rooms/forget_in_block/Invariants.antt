-- The loop invariant of `forget_in_block`.
use Rattle.std.proofs.Common.{nat_lt, not, ◌&&◌}
use Rattle.sv_queue.specs.Rooms.{AreWithout}
use Rattle.sv_queue.proofs.rooms.forget_in_block.Given as goal

abbrev pub invariant-loop-place : goal.invariant-loop-place
invariant-loop-place l = AreWithout l.slot (λ x. not (nat_lt x l.start) && nat_lt x l.place) l.initial.rows.items l.rows.items
