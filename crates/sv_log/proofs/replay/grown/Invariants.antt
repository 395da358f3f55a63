-- The loop invariant of `grown`.
use Rattle.std.proofs.Common.{◌≡◌, ◌++◌}
use Rattle.sv_log.specs.Pictures.{zeros}
use Rattle.sv_log.proofs.replay.grown.Given as goal

abbrev pub invariant-loop : goal.invariant-loop
invariant-loop l = l.bytes.items ≡ l.fn.bytes.items ++ zeros l.counter
