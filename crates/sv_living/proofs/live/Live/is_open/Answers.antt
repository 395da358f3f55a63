-- The table has just the open sessions.
use Rattle.std.proofs.Common.{Option, is_some, ap, ◌∙◌}
use Rattle.sv_core.specs.declared.seats.Seat.{Seat}
use Rattle.sv_living.proofs.Seats.{seat-some}
use Rattle.sv_living.proofs.live.Live.is_open.Goals as goal

pub returns : goal.returns
returns c h keeps =
    c.is_some.ensures
    ∙ ap (λ (o : Option Seat). is_some o) c.seat_of.ensures
    ∙ seat-some c.args.session c.args.self.now.table
    ∙ keeps.table.numbers c.args.session
