-- The measures of the functions of the cycle `conds`.
use Rattle.std.proofs.Common.{◌+◌, ◌*◌}
use Rattle.sv_wire.proofs.conds.+conds.Given as goal

abbrev pub decreases-cond_next : goal.decreases-cond_next
decreases-cond_next l = 2 * l.depth

abbrev pub decreases-join_next : goal.decreases-join_next
decreases-join_next l = 2 * l.depth + 1

abbrev pub decreases-not_next : goal.decreases-not_next
decreases-not_next l = 2 * l.depth + 1
