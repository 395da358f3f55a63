-- It stands at the front.
use Rattle.std.proofs.Common.{◌≡◌, ℕ, List, [], ◌∷◌, Option, None, Some, slice_get, Bool, true, false, is_some, sym, ◌∙◌, ap, subst, true≢false}
use Rattle.sv_core.specs.declared.seats.Seat.{Seat}
use Rattle.sv_living.specs.Table.{numbers_in}
use Rattle.sv_living.proofs.table.OpenSessions.first.Goals as goal

front-of : (seats : List Seat) (seat : Seat) → slice_get seats 0 ≡ Some seat → (rest : List ℕ) × (numbers_in seats ≡ seat.session ∷ rest)
front-of [] seat is = absurd (true≢false (sym (ap (λ (o : Option Seat). is_some o) is)))
front-of (x ∷ seats) seat is = (numbers_in seats, ap (λ (s : ℕ). s ∷ numbers_in seats) (session-same x seat is))
  where
    session-of : Option Seat → ℕ
    session-of None = 0
    session-of (Some y) = y.session

    session-same : (x seat : Seat) → Some x ≡ Some seat → x.session ≡ seat.session
    session-same x seat is = ap session-of is

pub returns : goal.returns
returns c =
    let xs = c.self.inside.seats.items in
    subst (λ (ys : List Seat). (rest : List ℕ) × (numbers_in ys ≡ c.in_ok-seat.seat.now.session ∷ rest)) (c.deref.ensures.value ∙ c.self.view_is)
    (front-of c.deref.result.now c.in_ok-seat.seat.now (sym c.in_ok-seat.ensures.value))
