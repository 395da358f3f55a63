-- What is proved by hand of `is_read_back` of a request.
use Rattle.sv_exchange.proofs.Sizes.{request_back, request_short}
use Rattle.sv_exchange.proofs.message.RequestMessage.is_read_back.Goals as goal

pub returns : goal.returns
returns c = record { back = request_back; short = request_short }
