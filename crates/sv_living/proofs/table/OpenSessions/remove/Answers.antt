-- By its place.
use Rattle.std.proofs.Common.{◌≡◌, List, ◌<◌, false, length, get_or, sym, ap, subst, ◌∙◌}
use Rattle.sv_world.specs.Control.{is_in}
use Rattle.sv_core.specs.declared.seats.Seat.{Seat}
use Rattle.sv_living.specs.Table.{numbers_in, IsByNumber}
use Rattle.sv_living.proofs.Seats.{others, others-none, others-at, others-ascending}
use Rattle.sv_living.proofs.table.OpenSessions.remove.Goals as goal
use Rattle.sv_living.proofs.table.OpenSessions.remove.Goals.{After-remove}

left : (c : After-remove) → c.remove.new.self.items ≡ others c.args.session c.self.inside.seats.items
left c =
    let s = c.args.session in
    let xs = c.self.inside.seats.items in
    let i = c.in-Some.place in
    let d = c.remove.result in
    let low : i < length xs = subst (λ (ys : List Seat). i < length ys) c.deref.ensures.value c.in-Some.ensures.0 in
    let is : (get_or xs i d).session ≡ s = subst (λ (ys : List Seat). (get_or ys i d).session ≡ s) c.deref.ensures.value (c.in-Some.ensures.1 d) in
    c.remove.ensures.items ∙ others-at s xs i d c.self.invariant low is

pub invariant_of-self : goal.invariant_of-self
invariant_of-self c = subst IsByNumber (sym (left c)) (others-ascending c.args.session c.self.inside.seats.items c.self.invariant)

pub returns-in-Some : goal.returns-in-Some
returns-in-Some c = left c ∙ ap (others c.args.session) c.self.view_is

pub returns-in_default : goal.returns-in_default
returns-in_default c =
    sym (others-none c.args.session c.args.self.now
    (subst (λ (xs : List Seat). is_in c.args.session (numbers_in xs) ≡ false) (c.deref.ensures.value ∙ c.self.view_is) c.in_default.ensures))
