-- Each call has a smaller tree.
use Rattle.std.proofs.Common.{◌+◌, ◌*◌}
use Rattle.sv_world.specs.Trees.{cond_nodes}
use Rattle.sv_world.proofs.flatten.+conds.Given as goal

abbrev pub decreases-push_cond : goal.decreases-push_cond
decreases-push_cond l = 2 * cond_nodes l.cond.now

abbrev pub decreases-push_both : goal.decreases-push_both
decreases-push_both l = 2 * (cond_nodes l.a.now + cond_nodes l.b.now) + 1
