-- What gets smaller in `reserve_all`.
use Rattle.std.proofs.Common.{length}
use Rattle.sv_witness.proofs.reports.+reserve_all.Given as goal

abbrev pub decreases-reserve_all : goal.decreases-reserve_all
decreases-reserve_all l = length l.results.now
