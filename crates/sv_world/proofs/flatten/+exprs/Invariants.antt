-- Each call has a smaller tree.
use Rattle.std.proofs.Common.{◌+◌, ◌*◌}
use Rattle.sv_world.specs.Trees.{expr_nodes}
use Rattle.sv_world.proofs.flatten.+exprs.Given as goal

abbrev pub decreases-push_expr : goal.decreases-push_expr
decreases-push_expr l = 2 * expr_nodes l.expr.now

abbrev pub decreases-push_pair : goal.decreases-push_pair
decreases-push_pair l = 2 * (expr_nodes l.a.now + expr_nodes l.b.now) + 1
