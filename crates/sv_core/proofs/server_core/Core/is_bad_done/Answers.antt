-- What the check leaves to prove of `Core::is_bad_done`.
use Rattle.std.proofs.Common.{◌<◌, sym, ◌∙◌, ap, arith}
use Rattle.sv_core.specs.Agreement.{sent_at}
use Rattle.sv_core.specs.Cores.{core_rules}
use Rattle.sv_core.proofs.AgreeSteps.{sent_seats, named_seats, sent-within}
use Rattle.sv_core.proofs.Dones.{bad-done, no-bad}
use Rattle.sv_core.proofs.Seating.{seat-low}
use Rattle.sv_core.proofs.server_core.Core.is_bad_done.Goals as goal

pub returns-clause-bad : goal.returns-clause-bad
returns-clause-bad g c =
    let a = c.args.self.now in
    let slot = c.args.seat.slot in
    let s = c.args.seat.session in
    let rows = a.sessions.items in
    let k = c.requires.0 in
    let small : slot < 1024 = omega (arith, seat-low rows slot s c.requires.1, k.few) in
    c.are_bad.ensures ∙ bad-done (core_rules a) g.h a.queue (sent_seats g.h rows) (named_seats g.h rows) slot s c.args.results.now
    (ap (sent_at g.h) c.requires.1) small k.commit (sent-within (core_rules a) g.h rows k.sound) k.fits

pub returns-clause-good : goal.returns-clause-good
returns-clause-good g c = λ q. no-bad (core_rules c.args.self.now) g.h c.args.seat.session c.args.results.now (sym (returns-clause-bad g c) ∙ q)
