-- The loop invariant of `raise_by`.
use Rattle.std.proofs.Common.{◌≡◌, ◌+◌}
use Rattle.sv_link.proofs.pairs.raise_by.Given as goal

abbrev pub invariant-loop : goal.invariant-loop
invariant-loop l = l.count.value ≡ l.fn.count.value + l.counter
