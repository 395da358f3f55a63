-- One lying client is tolerated.
use Rattle.sv_witness.proofs.Tolerated.{tolerated}
use Rattle.sv_witness.proofs.laws.one_lying_client_is_tolerated.Goals as goal

pub returns : goal.returns
returns c = tolerated
