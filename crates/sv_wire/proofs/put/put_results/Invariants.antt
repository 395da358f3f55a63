-- The loop invariant of `put_results`.
use Rattle.std.proofs.Common.{◌≡◌, ◌++◌, take, flat_map}
use Rattle.sv_wire.specs.Spelling.{result_bytes}
use Rattle.sv_wire.proofs.put.put_results.Given as goal

abbrev pub invariant-loop-found : goal.invariant-loop-found
invariant-loop-found l = l.out.items ≡ l.fn.out.items ++ flat_map result_bytes (take l.found-index l.results)
