-- What is proved by hand of `encode_into` of a reply.
use Rattle.sv_wire.specs.Spelling.{reply_bytes}
use Rattle.sv_exchange.proofs.Sizes.{reply_short, encoded_short}
use Rattle.sv_exchange.proofs.message.ReplyMessage.encode_into.Goals as goal

pub returns-clause-short : goal.returns-clause-short
returns-clause-short c = encoded_short c.encode_reply_into.result c.encode_reply_into.new.out (reply_bytes c.args.self.now) c.encode_reply_into.ensures.bytes (reply_short c.args.self.now c.requires)
