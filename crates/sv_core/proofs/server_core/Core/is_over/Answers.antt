-- What the check leaves to prove of `Core::is_over`.
use Rattle.std.proofs.Common.{◌∙◌, ap}
use Rattle.sv_core.specs.declared.sessions.SessionRow.{SessionRow}
use Rattle.sv_core.proofs.Seating.{row-read}
use Rattle.sv_core.proofs.server_core.Core.is_over.Goals as goal

pub returns : goal.returns
returns g c =
    let a = c.args.self.now in
    let slot = c.args.seat.slot in
    let s = c.args.seat.session in
    ap (λ (r : SessionRow). r.over) (row-read a.sessions.items slot s c.index.result.now c.requires.1 c.index.ensures) ∙ (c.requires.0.session_rows slot s c.requires.1).over
