-- One line more is taken.
use Rattle.sv_keeper.specs.Walks.{TakesLines, TakesLines.none}
use Rattle.sv_keeper.proofs.Taken.{then_taken}
use Rattle.sv_keeper.proofs.walking.LineWalk.take_all.Goals as goal

pub loop-rest-init : goal.loop-rest-init
loop-rest-init c = (c.requires.walk, TakesLines.none)

pub loop-rest-preserved : goal.loop-rest-preserved
loop-rest-preserved c = (c.in_ok-rest.ensures.walk, then_taken c.loop-rest.invariant.1 c.in_ok-rest.ensures.taken)
