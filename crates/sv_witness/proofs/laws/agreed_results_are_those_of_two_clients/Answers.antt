-- What is agreed was given by two clients.
use Rattle.sv_witness.proofs.Agreed.{results-agreed}
use Rattle.sv_witness.proofs.Two.{results-have_two}
use Rattle.sv_witness.proofs.laws.agreed_results_are_those_of_two_clients.Goals as goal

pub returns-clause-results : goal.returns-clause-results
returns-clause-results c = results-agreed

pub returns-clause-two : goal.returns-clause-two
returns-clause-two c = results-have_two
