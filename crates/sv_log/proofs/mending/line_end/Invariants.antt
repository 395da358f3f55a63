-- The loop invariant of `line_end`.
use Rattle.std.proofs.Common.{take}
use Rattle.sv_log.proofs.Mended.{IsPlain}
use Rattle.sv_log.proofs.mending.line_end.Given as goal

abbrev pub invariant-loop-i : goal.invariant-loop-i
invariant-loop-i l = IsPlain (take l.i l.bytes)
