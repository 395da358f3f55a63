-- What the check leaves to prove of `Core::decide_poll`.
use Rattle.sv_core.proofs.Kept.{old-poll}
use Rattle.sv_core.proofs.Relayed.{orphan-within}
use Rattle.sv_core.proofs.server_core.Core.decide_poll.Goals as goal

pub returns-in-Some-clause-holds : goal.returns-in-Some-clause-holds
returns-in-Some-clause-holds g c =
    (old-poll g.h c.args.seat.session, orphan-within g.h c.in-Some.pos c.in-Some.ensures.0 c.in-Some.ensures.1)
