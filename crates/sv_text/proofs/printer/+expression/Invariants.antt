-- Each call has fewer nodes before it.
use Rattle.std.proofs.Common.{◌+◌, ◌*◌, length}
use Rattle.sv_text.proofs.printer.+expression.Given as goal

abbrev pub decreases-put_expr : goal.decreases-put_expr
decreases-put_expr l = 3 * length l.nodes.now

abbrev pub decreases-put_head : goal.decreases-put_head
decreases-put_head l = 3 * length l.nodes.now + 2

abbrev pub decreases-put_pair : goal.decreases-put_pair
decreases-put_pair l = 3 * length l.nodes.now + 1
