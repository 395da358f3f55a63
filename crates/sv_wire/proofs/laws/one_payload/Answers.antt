-- What is proved by hand of `one_payload`.
use Rattle.sv_wire.proofs.AgainMessages.{requests_differ, replies_differ}
use Rattle.sv_wire.proofs.laws.one_payload.Goals as goal

pub returns-clause-requests : goal.returns-clause-requests
returns-clause-requests c = requests_differ

pub returns-clause-replies : goal.returns-clause-replies
returns-clause-replies c = replies_differ
