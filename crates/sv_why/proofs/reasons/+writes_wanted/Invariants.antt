-- Each call has fewer reads before it.
use Rattle.std.proofs.Common.{length}
use Rattle.sv_why.proofs.reasons.+writes_wanted.Given as goal

abbrev pub decreases-writes_wanted : goal.decreases-writes_wanted
decreases-writes_wanted l = length l.reads.now
