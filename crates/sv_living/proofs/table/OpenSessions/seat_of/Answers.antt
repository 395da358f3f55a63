-- By its place.
use Rattle.std.proofs.Common.{◌≡◌, List, ◌<◌, false, length, get_or, Some, sym, ap, subst, ◌∙◌}
use Rattle.sv_world.specs.Control.{is_in}
use Rattle.sv_core.specs.declared.seats.Seat.{Seat}
use Rattle.sv_living.specs.Table.{seat_of, numbers_in}
use Rattle.sv_living.proofs.Seats.{seat-none, seat-at}
use Rattle.sv_living.proofs.table.OpenSessions.seat_of.Goals as goal

pub returns-in_err-place : goal.returns-in_err-place
returns-in_err-place c =
    c.from_residual.ensures
    ∙ sym (seat-none c.args.session c.args.self.now (subst (λ (xs : List Seat). is_in c.args.session (numbers_in xs) ≡ false) (c.deref.ensures.value ∙ c.self.view_is) c.in_err-place.ensures))

pub returns : goal.returns
returns c =
    let s = c.args.session in
    let xs = c.self.inside.seats.items in
    let i = c.in_ok-place.place in
    let d = c.index.result.now in
    let low : i < length xs = subst (λ (ys : List Seat). i < length ys) c.deref.ensures.value c.in_ok-place.ensures.0 in
    let is : (get_or xs i d).session ≡ s = subst (λ (ys : List Seat). (get_or ys i d).session ≡ s) c.deref.ensures.value (c.in_ok-place.ensures.1 d) in
    ap (λ (x : Seat). Some x) c.index.ensures ∙ sym (seat-at s xs i d c.self.invariant low is) ∙ ap (seat_of s) c.self.view_is
