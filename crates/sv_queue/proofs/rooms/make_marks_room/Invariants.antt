-- The loop invariant of `make_marks_room`.
use Rattle.std.proofs.Common.{◌≡◌, ℕ, ◌<◌, ◌≤◌, get_or}
use Rattle.sv_queue.specs.Marks.{all_queued, marks_of}
use Rattle.sv_queue.specs.Rooms.{HaveGrown}
use Rattle.sv_queue.specs.Slots.{no_slots}
use Rattle.sv_queue.proofs.rooms.make_marks_room.Given as goal

abbrev pub invariant-loop-place : goal.invariant-loop-place
invariant-loop-place l = record {
  queued : all_queued l.entries.items ≡ all_queued l.initial.entries.items;
  grown : HaveGrown (marks_of l.initial.entries.items) (marks_of l.entries.items);
  enough : (k : ℕ) → k < l.place → l.room ≤ (get_or (marks_of l.entries.items) k no_slots).room;
}
