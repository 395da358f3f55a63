-- What gets smaller in `is_one_bad`.
use Rattle.std.proofs.Common.{length}
use Rattle.sv_core.proofs.reports.+is_one_bad.Given as goal

abbrev pub decreases-is_one_bad : goal.decreases-is_one_bad
decreases-is_one_bad g l = length l.results.now
