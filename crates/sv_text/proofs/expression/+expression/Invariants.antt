-- Each call may go less deep.
use Rattle.std.proofs.Common.{◌+◌, ◌*◌}
use Rattle.sv_text.proofs.expression.+expression.Given as goal

abbrev pub decreases-expr_at : goal.decreases-expr_at
decreases-expr_at l = 2 * l.depth

abbrev pub decreases-pair_at : goal.decreases-pair_at
decreases-pair_at l = 2 * l.depth + 1
