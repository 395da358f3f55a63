-- The loop invariant of `first_from`.
use Rattle.std.proofs.Common.{take, map, string_bytes}
use Rattle.sv_log.specs.Readings.{IsFirstNumber}
use Rattle.sv_log.proofs.reading.first_from.Given as goal

abbrev pub invariant-loop-i : goal.invariant-loop-i
invariant-loop-i l = IsFirstNumber l.wanted (take l.i (map string_bytes l.names)) l.least l.best
