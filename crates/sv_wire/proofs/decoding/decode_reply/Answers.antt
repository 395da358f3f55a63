-- What is proved by hand of `decode_reply`.
use Rattle.std.proofs.Common.{subst, ap, ◌∙◌, arith}
use Rattle.sv_wire.specs.Messages.{reply_at, Decodes}
use Rattle.sv_wire.proofs.AgainMessages.{reply_is_read}
use Rattle.sv_wire.proofs.Decoded.{reply_is_found}
use Rattle.sv_wire.proofs.decoding.decode_reply.Goals as goal

pub returns-clause-found : goal.returns-clause-found
returns-clause-found c = reply_is_found c.args.payload.now c.read_reply.result (λ i. omega (arith, c.type_inv.payload i)) c.read_reply.ensures

pub returns-clause-only : goal.returns-clause-only
returns-clause-only c = λ m is e. subst (λ f. Decodes c.read_reply.result f) (ap reply_at e ∙ reply_is_read m is.within is.fits) c.read_reply.ensures
