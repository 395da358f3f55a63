-- It is above all.
use Rattle.std.proofs.Common.{◌≡◌, List, true, subst, sym}
use Rattle.sv_core.specs.declared.seats.Seat.{Seat}
use Rattle.sv_living.specs.Table.{IsByNumber, ends_below}
use Rattle.sv_living.proofs.Seats.{push-ascending}
use Rattle.sv_living.proofs.table.OpenSessions.push.Goals as goal

pub invariant_of-self-2 : goal.invariant_of-self-2
invariant_of-self-2 c =
    subst IsByNumber (sym c.in_ok-push.ensures.items)
    (push-ascending c.self.inside.seats.items c.args.seat c.self.invariant (subst (λ (xs : List Seat). ends_below c.args.seat.session xs ≡ true) (sym c.self.view_is) c.requires))
