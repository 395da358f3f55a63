-- The agreed history is of the same sessions.
use Rattle.sv_witness.proofs.Same.{accepted-agreed, outcomes-agreed, client-agreed, sent-agreed}
use Rattle.sv_witness.proofs.laws.agreed_histories_are_alike.Goals as goal

pub returns-clause-accepted : goal.returns-clause-accepted
returns-clause-accepted c = accepted-agreed

pub returns-clause-outcomes : goal.returns-clause-outcomes
returns-clause-outcomes c = outcomes-agreed

pub returns-clause-clients : goal.returns-clause-clients
returns-clause-clients c = client-agreed

pub returns-clause-sent : goal.returns-clause-sent
returns-clause-sent c = sent-agreed
