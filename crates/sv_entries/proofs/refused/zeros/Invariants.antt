-- The loop invariant of `zeros`.
use Rattle.std.proofs.Common.{◌≡◌}
use Rattle.sv_entries.specs.Refused.{zeros}
use Rattle.sv_entries.proofs.refused.zeros.Given as goal

-- the sum has so many levels as turns were done
abbrev pub invariant-loop : goal.invariant-loop
invariant-loop l = l.sum ≡ zeros l.counter
