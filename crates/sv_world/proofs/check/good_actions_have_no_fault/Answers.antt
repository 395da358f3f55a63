-- No cause applies just to good actions.
use Rattle.sv_world.proofs.Good.{good_of_none, none_of_good}
use Rattle.sv_world.proofs.check.good_actions_have_no_fault.Goals as goal

pub returns : goal.returns
returns c = λ shape a. (good_of_none shape a, none_of_good shape a)
