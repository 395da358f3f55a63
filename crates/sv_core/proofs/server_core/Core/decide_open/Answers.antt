-- What the check leaves to prove of `Core::decide_open`.
use Rattle.std.proofs.Common.{◌≡◌, sym, subst}
use Rattle.sv_wire.specs.declared.message.Request.{Request}
use Rattle.sv_journal.specs.Answer.{reply_to_open}
use Rattle.sv_core.specs.Cores.{core_rules}
use Rattle.sv_core.specs.Decisions.{reply_by}
use Rattle.sv_core.proofs.server_core.Core.decide_open.Goals as goal

pub returns-in-Join-clause-reply : goal.returns-in-Join-clause-reply
returns-in-Join-clause-reply g c =
    subst (λ (q : Request). reply_by (core_rules c.args.self.now) g.h c.args.seat.session q c.decide_join.result
    ≡ reply_to_open (core_rules c.args.self.now) g.h c.args.seat.session q) (sym c.in-Join.is) c.decide_join.ensures.reply
