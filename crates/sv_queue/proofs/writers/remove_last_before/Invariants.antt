-- The loop invariant of `remove_last_before`.
use Rattle.std.proofs.Common.{[]}
use Rattle.sv_queue.specs.Written.{IsChangedAt, writes_before, front_of}
use Rattle.sv_queue.proofs.writers.remove_last_before.Given as goal

abbrev pub invariant-loop-slot : goal.invariant-loop-slot
invariant-loop-slot l = IsChangedAt [] front_of (writes_before l.action l.slot) l.initial.lists.items l.lists.items
