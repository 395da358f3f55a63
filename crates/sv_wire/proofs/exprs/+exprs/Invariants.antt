-- The measures of the functions of the cycle `exprs`.
use Rattle.std.proofs.Common.{◌+◌, ◌*◌}
use Rattle.sv_wire.proofs.exprs.+exprs.Given as goal

abbrev pub decreases-expr_next : goal.decreases-expr_next
decreases-expr_next l = 2 * l.depth

abbrev pub decreases-pair_next : goal.decreases-pair_next
decreases-pair_next l = 2 * l.depth + 1
