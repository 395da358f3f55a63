-- What is proved by hand of `no_payload_begins_another`.
use Rattle.sv_wire.proofs.AgainMessages.{requests_apart, replies_apart, kinds_apart}
use Rattle.sv_wire.proofs.laws.no_payload_begins_another.Goals as goal

pub returns-clause-requests : goal.returns-clause-requests
returns-clause-requests c = requests_apart

pub returns-clause-replies : goal.returns-clause-replies
returns-clause-replies c = replies_apart

pub returns-clause-kinds : goal.returns-clause-kinds
returns-clause-kinds c = kinds_apart
