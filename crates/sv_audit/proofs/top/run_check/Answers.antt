-- The answer of the call, from what was decided.
use Rattle.std.proofs.Common.{◌∙◌}
use Rattle.sv_audit.proofs.Endings.{answers_is, words_is}
use Rattle.sv_audit.proofs.Both.{both_by_status}
use Rattle.sv_audit.proofs.top.run_check.Goals as goal

pub returns-clause-answers : goal.returns-clause-answers
returns-clause-answers g c =
    rw c.status_of.ensures
    (answers_is _ _ _ _ _ _ _ _ (rw c.audit_of-audit.ensures at c.decide-ending.ensures.words) (rw c.audit_of-audit.ensures at c.decide-ending.ensures.ends)
    (λ none. (c.decide-ending.ensures.apart (c.audit_of-audit.ensures ∙ none)).1) c.decide-ending.ensures.raises
    (rw c.audit_of-audit.ensures at c.decide-ending.ensures.sure_scenario) (rw c.audit_of-audit.ensures at c.decide-ending.ensures.sure_report)
    (λ words file memory. rw c.audit_of-audit.ensures at (c.decide-ending.ensures.read (both_by_status _ words file memory)))
    (rw c.audit_of-audit.ensures at (rw c.words_line.ensures at c.tell.ensures)))

pub returns-clause-apart : goal.returns-clause-apart
returns-clause-apart g c = rw c.status_of.ensures (λ two. (c.decide-ending.ensures.apart ((words_is _ c.decide-ending.ensures.words).0 two)).0)
