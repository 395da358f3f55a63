-- Each call has fewer results before it.
use Rattle.std.proofs.Common.{length}
use Rattle.sv_lines.proofs.same.+same_results.Given as goal

abbrev pub decreases-same_results : goal.decreases-same_results
decreases-same_results l = length l.results.now
