-- Each call may go less deep.
use Rattle.std.proofs.Common.{◌+◌, ◌*◌}
use Rattle.sv_text.proofs.condition.+condition.Given as goal

abbrev pub decreases-cond_at : goal.decreases-cond_at
decreases-cond_at l = 2 * l.depth

abbrev pub decreases-join_at : goal.decreases-join_at
decreases-join_at l = 2 * l.depth + 1

abbrev pub decreases-not_at : goal.decreases-not_at
decreases-not_at l = 2 * l.depth + 1
