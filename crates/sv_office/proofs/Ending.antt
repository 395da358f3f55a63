-- The End of a session.
use Rattle.std.proofs.Common.{◌≡◌, ℕ, Option, Some, sym, ap, ◌∙◌}
use Rattle.sv_wire.specs.declared.message.Request.TheVariants as requests
use Rattle.sv_journal.specs.Sessions.{is_end}
use Rattle.sv_living.specs.World.{WorldView}
use Rattle.sv_office.specs.Entering.{GoesOn, IsEntryOf, IsEndOf}
use Rattle.sv_office.proofs.Adding.{goes_as}

pub end_on : (v w : WorldView) (mine : Option ℕ) (s : ℕ) → mine ≡ Some s → GoesOn (IsEntryOf s requests.End) v w → GoesOn (IsEndOf mine) v w
end_on v w mine s has on = goes_as (λ e is. (has ∙ ap (λ (t : ℕ). Some t) (sym is.0), ap is_end is.1)) on
