-- Each call has fewer objects before it.
use Rattle.std.proofs.Common.{length}
use Rattle.sv_report.proofs.kept.+append_more.Given as goal

abbrev pub decreases-append_more : goal.decreases-append_more
decreases-append_more l = length l.objects.now
