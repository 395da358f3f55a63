-- What is proved by hand of `Pilot::read`.
use Rattle.std.proofs.Common.{◌≡◌, ◌⊎◌, inr, sym, subst, ◌∙◌}
use Rattle.sv_pilot.specs.declared.trouble.Trouble.{Trouble}
use Rattle.sv_pilot.specs.declared.trouble.Trouble.TheVariants as troubles
use Rattle.sv_pilot.proofs.Making.{same_read, none_read, text_or_memory}
use Rattle.sv_pilot.proofs.pilot.Pilot.read.Goals as goal

pub returns-in-Ok-clause-only : goal.returns-in-Ok-clause-only
returns-in-Ok-clause-only g c = λ other is. same_read c.in-Ok.action other (c.in-Ok.ensures.only other is)

pub returns-in-Err-clause-refused : goal.returns-in-Err-clause-refused
returns-in-Err-clause-refused g c = λ game. inr (λ other is may. none_read c.in-Err.fault other (sym c.trouble_of.ensures ∙ game) (c.in-Err.ensures.only other is))

pub returns-in-Err-clause-blame : goal.returns-in-Err-clause-blame
returns-in-Err-clause-blame g c = subst (λ (t : Trouble). (t ≡ troubles.Game) ⊎ (t ≡ troubles.Memory)) (sym c.trouble_of.ensures) (text_or_memory c.in-Err.fault)
