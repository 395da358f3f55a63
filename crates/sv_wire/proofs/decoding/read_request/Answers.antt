-- What is proved by hand of `read_request`.
use Rattle.sv_wire.proofs.NearMessages.{request_place}
use Rattle.sv_wire.proofs.decoding.read_request.Goals as goal

pub placed-requires-clause-within : goal.placed-requires-clause-within
placed-requires-clause-within c = (request_place c.args.payload.now c.in-Err-Stop.stop (rw c.in-Err-Stop.field-0-is at c.in-Err-Stop.ensures)).0

pub placed-requires-clause-near : goal.placed-requires-clause-near
placed-requires-clause-near c = (request_place c.args.payload.now c.in-Err-Stop.stop (rw c.in-Err-Stop.field-0-is at c.in-Err-Stop.ensures)).1
