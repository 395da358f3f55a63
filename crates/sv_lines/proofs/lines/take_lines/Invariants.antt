-- The lines so far stood in the text; each turn leaves fewer.
use Rattle.std.proofs.Common.{length}
use Rattle.sv_lines.proofs.Counting.{Took}
use Rattle.sv_lines.proofs.lines.take_lines.Given as goal

abbrev pub invariant-loop-left : goal.invariant-loop-left
invariant-loop-left l = Took l.text l.lines l.rest l.left

abbrev pub decreases-loop-left : goal.decreases-loop-left
decreases-loop-left l = length l.left
