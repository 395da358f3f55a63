-- What was entered is taken out again.
use Rattle.std.proofs.Common.{List, refl, ap, ◌∙◌}
use Rattle.sv_core.specs.declared.seats.Seat.{Seat}
use Rattle.sv_living.proofs.Seats.{others, others-push}
use Rattle.sv_living.proofs.step.answer_first.Goals as goal

pub returns-in-Err-clause-table : goal.returns-in-Err-clause-table
returns-in-Err-clause-table g c =
    let seat = c.args.seat in
    c.remove.ensures
    ∙ ap (λ (seats : List Seat). others seat.session seats) c.in_ok-push.ensures.ok
    ∙ others-push seat.session c.args.table.now seat refl c.requires.1.1.1.0
