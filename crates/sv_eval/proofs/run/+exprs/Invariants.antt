-- Each call has fewer nodes before it.
use Rattle.std.proofs.Common.{◌+◌, ◌*◌, length}
use Rattle.sv_eval.proofs.run.+exprs.Given as goal

abbrev pub decreases-expr_number : goal.decreases-expr_number
decreases-expr_number l = 2 * length l.nodes.now

abbrev pub decreases-pair_number : goal.decreases-pair_number
decreases-pair_number l = 2 * length l.nodes.now + 1
