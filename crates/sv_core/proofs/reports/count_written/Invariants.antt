-- The loop invariant of `count_written`.
use Rattle.std.proofs.Common.{◌≡◌, ◌+◌, ◌≤◌, drop, length}
use Rattle.sv_world.specs.Sets.{at_mask, read_set, write_set}
use Rattle.sv_core.proofs.reports.count_written.Given as goal

abbrev pub invariant-loop-slot : goal.invariant-loop-slot
invariant-loop-slot l = record {
  left : l.count + length (at_mask l.action.mask l.slot (drop l.slot (read_set l.action))) ≡ length (write_set l.action);
  few : l.count ≤ l.slot;
}
