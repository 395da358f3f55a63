-- The greatest cut is the greatest.
use Rattle.sv_world.proofs.Greatest.{cut-low, cut-high, cut-few, cut-greatest, cut-few_below}
use Rattle.sv_world.proofs.cuts.the_greatest_cut_is_the_greatest.Goals as goal

pub returns-clause-low : goal.returns-clause-low
returns-clause-low c = cut-low

pub returns-clause-high : goal.returns-clause-high
returns-clause-high c = cut-high

pub returns-clause-few : goal.returns-clause-few
returns-clause-few c = cut-few

pub returns-clause-greatest : goal.returns-clause-greatest
returns-clause-greatest c = cut-greatest

pub returns-clause-below : goal.returns-clause-below
returns-clause-below c = cut-few_below
