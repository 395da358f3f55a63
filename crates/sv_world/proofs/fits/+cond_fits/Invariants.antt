-- Each call has fewer nodes before it.
use Rattle.std.proofs.Common.{length}
use Rattle.sv_world.proofs.fits.+cond_fits.Given as goal

abbrev pub decreases-cond_fits : goal.decreases-cond_fits
decreases-cond_fits l = length l.nodes.now
