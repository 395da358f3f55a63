-- What is proved by hand of `encode_into` of a request.
use Rattle.sv_wire.specs.Spelling.{request_bytes}
use Rattle.sv_exchange.proofs.Sizes.{request_short, encoded_short}
use Rattle.sv_exchange.proofs.message.RequestMessage.encode_into.Goals as goal

pub returns-clause-short : goal.returns-clause-short
returns-clause-short c = encoded_short c.encode_request_into.result c.encode_request_into.new.out (request_bytes c.args.self.now) c.encode_request_into.ensures.bytes (request_short c.args.self.now c.requires)
