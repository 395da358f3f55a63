-- Each call has fewer nodes before it.
use Rattle.std.proofs.Common.{◌+◌, ◌*◌, length}
use Rattle.sv_world.proofs.fits.+exprs.Given as goal

abbrev pub decreases-expr_fits : goal.decreases-expr_fits
decreases-expr_fits l = 2 * length l.nodes.now

abbrev pub decreases-pair_fits : goal.decreases-pair_fits
decreases-pair_fits l = 2 * length l.nodes.now + 1
