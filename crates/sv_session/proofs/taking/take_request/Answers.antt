-- What the check leaves to prove of `take_request`.
use Rattle.sv_session.proofs.Taken.{whole_taken, malformed_taken, long_taken}
use Rattle.sv_session.proofs.taking.take_request.Goals as goal

pub returns-in-Whole : goal.returns-in-Whole
returns-in-Whole c = whole_taken _ _ _ c.in-Whole.ensures.reads c.in-Whole.ensures.takes

pub returns-in-Malformed : goal.returns-in-Malformed
returns-in-Malformed c = malformed_taken _ _ _ c.in-Malformed.ensures.reads

pub returns-in-TooLong : goal.returns-in-TooLong
returns-in-TooLong c = long_taken _ _ _ c.in-TooLong.ensures.reads
