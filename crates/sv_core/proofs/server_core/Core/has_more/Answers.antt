-- What the check leaves to prove of `Core::has_more`.
use Rattle.std.proofs.Common.{sym, ◌∙◌, ap}
use Rattle.sv_journal.specs.Sessions.{asked_in}
use Rattle.sv_core.specs.declared.sessions.SessionRow.{SessionRow}
use Rattle.sv_core.specs.Cores.{core_rules}
use Rattle.sv_core.proofs.Seating.{row-read, more-some, more-none}
use Rattle.sv_core.proofs.server_core.Core.has_more.Goals as goal

pub returns-in-Some : goal.returns-in-Some
returns-in-Some g c =
    let a = c.args.self.now in
    let slot = c.args.seat.slot in
    let s = c.args.seat.session in
    more-some (core_rules a).requests (asked_in g.h s) c.in-Some.left
    (sym c.in-Some.is ∙ ap (λ (r : SessionRow). r.left) (row-read a.sessions.items slot s c.index.result.now c.requires.1 c.index.ensures) ∙ (c.requires.0.session_rows slot s c.requires.1).left)

pub returns-in-None : goal.returns-in-None
returns-in-None g c =
    let a = c.args.self.now in
    let slot = c.args.seat.slot in
    let s = c.args.seat.session in
    more-none (core_rules a).requests (asked_in g.h s)
    (sym c.in-None.is ∙ ap (λ (r : SessionRow). r.left) (row-read a.sessions.items slot s c.index.result.now c.requires.1 c.index.ensures) ∙ (c.requires.0.session_rows slot s c.requires.1).left)
