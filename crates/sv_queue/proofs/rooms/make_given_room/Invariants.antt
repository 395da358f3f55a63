-- The loop invariant of `make_given_room`.
use Rattle.std.proofs.Common.{ℕ, ◌<◌, ◌≤◌, get_or}
use Rattle.sv_queue.specs.Rooms.{HaveGrown}
use Rattle.sv_queue.specs.Slots.{no_slots}
use Rattle.sv_queue.proofs.rooms.make_given_room.Given as goal

abbrev pub invariant-loop-place : goal.invariant-loop-place
invariant-loop-place l = record {
  grown : HaveGrown l.initial.rows.items l.rows.items;
  enough : (k : ℕ) → k < l.place → l.room ≤ (get_or l.rows.items k no_slots).room;
}
