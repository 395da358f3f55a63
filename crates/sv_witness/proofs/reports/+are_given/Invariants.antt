-- What gets smaller in `are_given`.
use Rattle.std.proofs.Common.{length}
use Rattle.sv_witness.proofs.reports.+are_given.Given as goal

abbrev pub decreases-are_given : goal.decreases-are_given
decreases-are_given l = length l.reports.now
