-- The loop invariant of `forget_given`.
use Rattle.std.proofs.Common.{◌/◌, nat_lt}
use Rattle.sv_queue.specs.Rooms.{AreWithout}
use Rattle.sv_queue.proofs.rooms.forget_given.Given as goal

abbrev pub invariant-loop-place : goal.invariant-loop-place
invariant-loop-place l = record {
  rows : AreWithout l.slot (λ x. nat_lt (x / 64) l.place) l.initial.rows.items l.rows.items;
  blocks : AreWithout l.slot (λ b. nat_lt b l.place) l.initial.blocks.items l.blocks.items;
}
