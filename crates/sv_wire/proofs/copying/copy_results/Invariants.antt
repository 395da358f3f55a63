-- The loop invariant of `copy_results`.
use Rattle.std.proofs.Common.{◌≡◌, take}
use Rattle.sv_wire.proofs.copying.copy_results.Given as goal

abbrev pub invariant-loop-found : goal.invariant-loop-found
invariant-loop-found l = l.copies.items ≡ take l.found-index l.results
