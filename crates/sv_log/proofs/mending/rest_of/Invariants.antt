-- The loop invariant of `rest_of`.
use Rattle.std.proofs.Common.{◌≤◌, length}
use Rattle.sv_log.proofs.mending.rest_of.Given as goal

abbrev pub invariant-loop-i : goal.invariant-loop-i
invariant-loop-i l = record { first : l.first ≤ length l.bytes; end : l.end ≤ length l.bytes }
