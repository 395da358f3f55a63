-- Both files, one after the other.
use Rattle.std.proofs.Common.{◌∙◌}
use Rattle.sv_ending.specs.Statuses.{counts}
use Rattle.sv_audit.specs.declared.ending.AuditEnding.TheVariants as endings
use Rattle.sv_audit.proofs.Making.{raised_by, unread_by, then_raises}
use Rattle.sv_audit.proofs.reading.read_both.Goals as goal

pub returns-in_err-scenario-clause-unread : goal.returns-in_err-scenario-clause-unread
returns-in_err-scenario-clause-unread g c = unread_by c.from_residual.result c.in_err-scenario.field-0.0 c.from_residual.ensures.1 c.in_err-scenario.ensures.unread

pub returns-in_err-scenario-clause-raises : goal.returns-in_err-scenario-clause-raises
returns-in_err-scenario-clause-raises g c =
    λ k. raised_by c.from_residual.result (endings.Plain c.in_err-scenario.field-0.0) c.from_residual.ensures.1 _ _ (c.in_err-scenario.ensures.raises (counts 0 0 0 k))

pub returns-in_err-report-clause-raises : goal.returns-in_err-report-clause-raises
returns-in_err-report-clause-raises g c =
    λ k. raised_by c.from_residual-in_err-report.result c.in_err-report.field-0.0 c.from_residual-in_err-report.ensures.1 _ _
    (then_raises _ _ _ c.in_err-report.field-0.0 (c.in_ok-scenario.ensures.raises (counts 0 0 0 k)) (c.in_err-report.ensures.raises k))

pub returns-clause-raises : goal.returns-clause-raises
returns-clause-raises g c = λ k. c.in_ok-report.ensures.raises k ∙ c.in_ok-scenario.ensures.raises (counts 0 0 0 k)
