-- Honest clients have no disputes.
use Rattle.sv_witness.proofs.Calm.{none-disputed}
use Rattle.sv_witness.proofs.laws.honest_clients_have_no_disputes.Goals as goal

pub returns : goal.returns
returns c = none-disputed
