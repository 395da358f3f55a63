-- Without authority, or where nothing was accepted, no report has to stand there.
use Rattle.std.proofs.Common.{inl, refl, sym, ◌∙◌}
use Rattle.sv_office.proofs.Adding.{goes_nowhere}
use Rattle.sv_office.proofs.Followed.{unreported}
use Rattle.sv_office.proofs.Stepping1.{clash}
use Rattle.sv_office.proofs.office.Office.report_at_once.Goals as goal

pub returns-then-not-self-clause-followed : goal.returns-then-not-self-clause-followed
returns-then-not-self-clause-followed g c = unreported (λ a l. clash a c.if-not-self.true) (inl (refl, refl))

pub returns-then-not-self-clause-added : goal.returns-then-not-self-clause-added
returns-then-not-self-clause-added g c = goes_nowhere refl

pub returns-then-last-before-clause-followed : goal.returns-then-last-before-clause-followed
returns-then-last-before-clause-followed g c = unreported (λ a l. l (sym c.last.ensures ∙ c.if-last-before.true)) (inl (refl, refl))

pub returns-then-last-before-clause-added : goal.returns-then-last-before-clause-added
returns-then-last-before-clause-added g c = goes_nowhere refl
