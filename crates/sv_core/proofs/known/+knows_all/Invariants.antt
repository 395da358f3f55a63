-- What gets smaller in `knows_all`.
use Rattle.std.proofs.Common.{length}
use Rattle.sv_core.proofs.known.+knows_all.Given as goal

abbrev pub decreases-knows_all : goal.decreases-knows_all
decreases-knows_all g l = length l.objects.now
