-- What is proved by hand of `decode_request`.
use Rattle.std.proofs.Common.{subst, ap, ◌∙◌, arith}
use Rattle.sv_wire.specs.Messages.{request_at, Decodes}
use Rattle.sv_wire.proofs.AgainMessages.{request_is_read}
use Rattle.sv_wire.proofs.Decoded.{request_is_found}
use Rattle.sv_wire.proofs.decoding.decode_request.Goals as goal

pub returns-clause-found : goal.returns-clause-found
returns-clause-found c = request_is_found c.args.payload.now c.read_request.result (λ i. omega (arith, c.type_inv.payload i)) c.read_request.ensures

pub returns-clause-only : goal.returns-clause-only
returns-clause-only c = λ m is e. subst (λ f. Decodes c.read_request.result f) (ap request_at e ∙ request_is_read m is.within is.fits) c.read_request.ensures
