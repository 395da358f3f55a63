-- The counts of faults, by the part of the call that ended it.
use Rattle.sv_audit.specs.declared.ending.AuditEnding.TheVariants as endings
use Rattle.sv_audit.specs.Statuses.{ending_of}
use Rattle.sv_audit.specs.Words.{question_by}
use Rattle.sv_audit.proofs.Making.{raised_by, calm_raises, given_calm, judged_calm, answer_calm}
use Rattle.sv_audit.proofs.Both.{not_both}
use Rattle.sv_audit.proofs.top.text_for.Goals as goal

pub returns-in_err-both-clause-raises : goal.returns-in_err-both-clause-raises
returns-in_err-both-clause-raises g c =
    λ k. raised_by c.from_residual.result c.in_err-both.field-0.0 c.from_residual.ensures.1 _ _ (c.in_err-both.ensures.raises k)

pub returns-in_err-scenario-clause-raises : goal.returns-in_err-scenario-clause-raises
returns-in_err-scenario-clause-raises g c =
    λ k. raised_by c.from_residual-in_err-scenario.result (endings.Plain c.in_err-scenario.field-0.0) c.from_residual-in_err-scenario.ensures.1 _ _
    (calm_raises _ _ (endings.Plain c.in_err-scenario.field-0.0) (given_calm c.deref.result.now c.in_err-scenario.field-0.0 c.in_err-scenario.ensures) (c.in_ok-both.ensures.raises k))

pub returns-in_err-played-clause-raises : goal.returns-in_err-played-clause-raises
returns-in_err-played-clause-raises g c =
    λ k. raised_by c.from_residual-in_err-played.result c.in_err-played.field-0.0 c.from_residual-in_err-played.ensures.1 _ _
    (calm_raises _ _ c.in_err-played.field-0.0 (judged_calm c.in_ok-scenario.scenario c.deref-2.result.now c.in_err-played.field-0.0 c.in_err-played.ensures) (c.in_ok-both.ensures.raises k))

pub returns-clause-raises : goal.returns-clause-raises
returns-clause-raises g c =
    λ k. calm_raises _ _ (ending_of c.answered.result)
    (answer_calm c.in_ok-scenario.scenario c.in_ok-played.played (question_by c.args.audit.question) c.answered.result c.answered.ensures) (c.in_ok-both.ensures.raises k)

pub returns-in_err-both-clause-read : goal.returns-in_err-both-clause-read
returns-in_err-both-clause-read g c = λ both. absurd (not_both c.from_residual.result c.in_err-both.field-0.0 c.from_residual.ensures.1 c.in_err-both.ensures.unread both)
