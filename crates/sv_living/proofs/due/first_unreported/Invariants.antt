-- None so far; each is asked of the same history.
use Rattle.std.proofs.Common.{◌≡◌, ℕ, ◌≤◌, false}
use Rattle.sv_living.specs.Deciding.{is_unreported}
use Rattle.sv_living.proofs.due.first_unreported.Given as goal

abbrev pub ghost-is_unreported : goal.ghost-is_unreported
ghost-is_unreported g a = g.h

abbrev pub invariant-loop-before : goal.invariant-loop-before
invariant-loop-before g l = (p : ℕ) → p ≤ l.before → is_unreported g.h l.seat.session p ≡ false
