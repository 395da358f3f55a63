-- The loop invariant of `has_name`.
use Rattle.std.proofs.Common.{take, map, string_bytes}
use Rattle.sv_log.proofs.Firsts.{NotIn}
use Rattle.sv_log.proofs.reading.has_name.Given as goal

abbrev pub invariant-loop-i : goal.invariant-loop-i
invariant-loop-i l = NotIn (take l.i (map string_bytes l.names)) l.wanted
