-- The loop invariant of `set_of`.
use Rattle.std.proofs.Common.{◌≤◌}
use Rattle.test_queue.proofs.calls.set_of.Given as goal

abbrev pub invariant-loop-slot : goal.invariant-loop-slot
invariant-loop-slot l = 1024 ≤ l.set.room
