-- What is proved by hand of `make_room`.
use Rattle.sv_exchange.proofs.Posting.{posted}
use Rattle.sv_exchange.proofs.outbox.make_room.Goals as goal

pub returns-clause-posts : goal.returns-clause-posts
returns-clause-posts g c = posted c.send_off.result _ _ _ _ c.send_off.ensures.sends c.send_off.ensures.left
