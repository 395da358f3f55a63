-- The loop invariant of `disputes_with`.
use Rattle.std.proofs.Common.{◌≡◌, ◌++◌, drop}
use Rattle.sv_witness.specs.Kept.{new_disputes}
use Rattle.sv_witness.proofs.noting.disputes_with.Given as goal

abbrev pub invariant-loop-found : goal.invariant-loop-found
invariant-loop-found l =
    l.disputes.items ++ new_disputes l.reports l.client (drop l.found-index l.counted) ≡ new_disputes l.reports l.client l.counted
