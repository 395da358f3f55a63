-- The steward's Poll, which is known not to be refused.
use Rattle.std.proofs.Common.{sym, subst}
use Rattle.sv_core.specs.Cores.{core_rules}
use Rattle.sv_living.specs.Deciding.{IsDecided}
use Rattle.sv_living.proofs.Deciding.{decided_poll}
use Rattle.sv_living.proofs.step.decide.Goals as goal

pub returns-then-is_due_poll : goal.returns-then-is_due_poll
returns-then-is_due_poll g c =
    let r = core_rules c.args.core.now in
    let s = c.args.seat.session in
    let q = c.args.request.now in
    subst (IsDecided g.g.w r g.g.h s q) (sym c.due_decision.ensures) (decided_poll g.g.w r g.g.h s q (c.is_due_poll.ensures c.if-is_due_poll.true))
