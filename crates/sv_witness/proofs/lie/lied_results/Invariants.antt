-- The loop invariant of `lied_results`.
use Rattle.std.proofs.Common.{◌≡◌, map, take}
use Rattle.sv_witness.specs.Lies.{lied_result}
use Rattle.sv_witness.proofs.lie.lied_results.Given as goal

abbrev pub invariant-loop-found : goal.invariant-loop-found
invariant-loop-found l = l.lies.items ≡ map lied_result (take l.found-index l.results)
