-- Without a session one asks in the next one, which has no entry.
use Rattle.std.proofs.Common.{inr, arith}
use Rattle.sv_office.proofs.Orders.{above_next}
use Rattle.sv_office.proofs.entering.asking_session.Goals as goal

pub returns-in-None : goal.returns-in-None
returns-in-None g c =
    inr (c.in-None.is, above_next c.args.keeper.now.world.history c.is_lawful.ensures.order c.next_session.result (omega (arith, c.next_session.ensures)))
