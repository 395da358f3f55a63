-- Each call has fewer objects before it.
use Rattle.std.proofs.Common.{length}
use Rattle.sv_why.proofs.execution.+put_all.Given as goal

abbrev pub decreases-put_all : goal.decreases-put_all
decreases-put_all l = length l.objects.now
