-- What is proved by hand of `encoded_is_read_back`.
use Rattle.sv_wire.proofs.AgainMessages.{request_is_read, reply_is_read}
use Rattle.sv_wire.proofs.laws.encoded_is_read_back.Goals as goal

pub returns-clause-requests : goal.returns-clause-requests
returns-clause-requests c = λ m is. request_is_read m is.within is.fits

pub returns-clause-replies : goal.returns-clause-replies
returns-clause-replies c = λ m is. reply_is_read m is.within is.fits
