-- Each call has fewer nodes before it.
use Rattle.std.proofs.Common.{length}
use Rattle.sv_eval.proofs.run.+cond_holds.Given as goal

abbrev pub decreases-cond_holds : goal.decreases-cond_holds
decreases-cond_holds l = length l.nodes.now
