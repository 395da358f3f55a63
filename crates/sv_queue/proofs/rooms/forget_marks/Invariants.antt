-- The loop invariant of `forget_marks`.
use Rattle.std.proofs.Common.{◌≡◌, ◌++◌, map, take, drop}
use Rattle.sv_queue.specs.Marks.{waiting_but}
use Rattle.sv_queue.proofs.rooms.forget_marks.Given as goal

abbrev pub invariant-loop-place : goal.invariant-loop-place
invariant-loop-place l = l.entries.items ≡ map (waiting_but l.slot) (take l.place l.initial.entries.items) ++ drop l.place l.initial.entries.items
