-- Each call has fewer objects before it.
use Rattle.std.proofs.Common.{length}
use Rattle.sv_why.proofs.reasons.+want_all.Given as goal

abbrev pub decreases-want_all : goal.decreases-want_all
decreases-want_all l = length l.objects.now
