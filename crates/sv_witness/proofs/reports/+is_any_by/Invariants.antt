-- What gets smaller in `is_any_by`.
use Rattle.std.proofs.Common.{length}
use Rattle.sv_witness.proofs.reports.+is_any_by.Given as goal

abbrev pub decreases-is_any_by : goal.decreases-is_any_by
decreases-is_any_by l = length l.reports.now
