-- The sessions that there may be where they are counted.
use Rattle.std.proofs.Common.{◌≡◌, ℕ, ◌<◌, Option, Some, sym, subst}
use Rattle.sv_journal.specs.Answer.{MayBeSession}

pub below_may : (limit : Option ℕ) (n s : ℕ) → Some n ≡ limit → s < n → MayBeSession limit s
below_may limit n s is low = subst (λ (o : Option ℕ). MayBeSession o s) is low

pub may_below : (limit : Option ℕ) (n s : ℕ) → Some n ≡ limit → MayBeSession limit s → s < n
may_below limit n s is may = subst (λ (o : Option ℕ). MayBeSession o s) (sym is) may
