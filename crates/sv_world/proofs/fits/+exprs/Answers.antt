-- A literal keeps to all limits.
use Rattle.std.proofs.Common.{List, ap, ◌∙◌}
use Rattle.sv_world.specs.Parts.{Part, first}
use Rattle.sv_world.specs.PartTrees.{fits}
use Rattle.sv_world.proofs.Measured.{lit_fits}
use Rattle.sv_world.proofs.fits.+exprs.Goals as goal

pub expr_fits-returns-in_ok-left-in-Lit-clause-fits : goal.expr_fits-returns-in_ok-left-in-Lit-clause-fits
expr_fits-returns-in_ok-left-in-Lit-clause-fits t c =
    ap (λ (ps : List Part). fits c.args.limits.now (first ps)) c.in-Lit.ensures.head ∙ lit_fits c.args.limits.now c.in-Lit.field-0
