-- What is agreed is what all clients but one give.
use Rattle.sv_witness.proofs.Disputed.{agreed-true}
use Rattle.sv_witness.proofs.laws.agreed_results_are_true.Goals as goal

pub returns : goal.returns
returns c = agreed-true
