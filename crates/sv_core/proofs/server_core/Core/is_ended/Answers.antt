-- What the check leaves to prove of `Core::is_ended`.
use Rattle.std.proofs.Common.{◌∙◌, ap}
use Rattle.sv_core.specs.declared.sessions.SessionRow.{SessionRow}
use Rattle.sv_core.proofs.Seating.{row-read}
use Rattle.sv_core.proofs.server_core.Core.is_ended.Goals as goal

pub returns : goal.returns
returns c = λ h k.
    (let a = c.args.self.now in
    let slot = c.args.seat.slot in
    let s = c.args.seat.session in
    ap (λ (r : SessionRow). r.ended) (row-read a.sessions.items slot s c.index.result.now c.requires c.index.ensures) ∙ (k.session_rows slot s c.requires).ended)
