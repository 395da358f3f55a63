-- The loop invariant of `first_wrong`.
use Rattle.std.proofs.Common.{take, map, string_bytes}
use Rattle.sv_log.proofs.Firsts.{NoneWrong}
use Rattle.sv_log.proofs.reading.first_wrong.Given as goal

abbrev pub invariant-loop-i : goal.invariant-loop-i
invariant-loop-i l = NoneWrong (take l.i (map string_bytes l.names))
