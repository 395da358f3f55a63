-- What gets smaller in `have_attrs`.
use Rattle.std.proofs.Common.{length}
use Rattle.sv_core.proofs.reports.+have_attrs.Given as goal

abbrev pub decreases-have_attrs : goal.decreases-have_attrs
decreases-have_attrs l = length l.values.now
