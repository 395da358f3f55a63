-- The loop invariant of `copy_counted`.
use Rattle.std.proofs.Common.{◌≡◌, ◌++◌, drop}
use Rattle.sv_witness.specs.Kept.{counted_results}
use Rattle.sv_witness.proofs.noting.copy_counted.Given as goal

abbrev pub invariant-loop-found : goal.invariant-loop-found
invariant-loop-found l =
    l.copies.items ++ counted_results l.commit l.reports l.client (drop l.found-index l.results) ≡ counted_results l.commit l.reports l.client l.results
