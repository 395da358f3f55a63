-- Each call has fewer nodes before it.
use Rattle.std.proofs.Common.{◌+◌, ◌*◌, length}
use Rattle.sv_text.proofs.printer.+condition.Given as goal

abbrev pub decreases-put_cond : goal.decreases-put_cond
decreases-put_cond l = 2 * length l.nodes.now

abbrev pub decreases-put_joined : goal.decreases-put_joined
decreases-put_joined l = 2 * length l.nodes.now + 1

abbrev pub decreases-put_not : goal.decreases-put_not
decreases-put_not l = 2 * length l.nodes.now + 1
