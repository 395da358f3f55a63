-- The loop invariant of `is_settled`.
use Rattle.std.proofs.Common.{reverse, take}
use Rattle.sv_check.proofs.Settling.{IsSettling}
use Rattle.sv_check.proofs.settled.is_settled.Given as goal

abbrev pub invariant-loop-entry : goal.invariant-loop-entry
invariant-loop-entry l = IsSettling (reverse (take l.entry-index l.entries)) l.session l.asked l.next l.ended
