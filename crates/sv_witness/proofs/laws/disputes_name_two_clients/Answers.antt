-- Each dispute is of two clients.
use Rattle.sv_witness.proofs.Disputed.{all-disputed, all-name}
use Rattle.sv_witness.proofs.laws.disputes_name_two_clients.Goals as goal

pub returns-clause-two : goal.returns-clause-two
returns-clause-two c = all-disputed

pub returns-clause-liar : goal.returns-clause-liar
returns-clause-liar c = all-name
