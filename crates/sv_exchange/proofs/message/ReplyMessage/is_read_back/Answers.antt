-- What is proved by hand of `is_read_back` of a reply.
use Rattle.sv_exchange.proofs.Sizes.{reply_back, reply_short}
use Rattle.sv_exchange.proofs.message.ReplyMessage.is_read_back.Goals as goal

pub returns : goal.returns
returns c = record { back = reply_back; short = reply_short }
