-- Both files were read, by how the call ends.
use Rattle.std.proofs.Common.{◌≡◌, ◌≢◌, ℕ, true, false, true≢false, List, Option, Some, None, refl, sym, ap, ◌∙◌}
use Rattle.std.specs.Prelude.{IsErrAnd, Result}
use Rattle.sv_bytes.specs.Reading.{ReadsFront}
use Rattle.sv_ending.specs.declared.ending.Ending.TheVariants as plain
use Rattle.sv_ending.proofs.Counts.{came}
use Rattle.sv_audit.specs.declared.ending.AuditEnding.{AuditEnding}
use Rattle.sv_audit.specs.declared.ending.AuditEnding.TheVariants as endings
use Rattle.sv_audit.specs.Judging.{report_limit}
use Rattle.sv_audit.specs.Statuses.{AreUnread, IsReportRead, ending_of, is_of_both, status_of}

pub read_to : (told : Option (List ℕ)) (bytes : List ℕ) (left : Option (List ℕ)) → ReadsFront told report_limit bytes left → IsReportRead told left
read_to None bytes left h = h
read_to (Some all) bytes left h = h.1

unread_none : (e : AuditEnding) → AreUnread e → is_of_both e ≡ false
unread_none (endings.Plain plain.File) h = refl
unread_none (endings.Plain plain.Memory) h = refl
unread_none (endings.Plain plain.Done) h = absurd h
unread_none (endings.Plain plain.Words) h = refl
unread_none (endings.Plain (plain.Scenario line)) h = absurd h
unread_none (endings.Plain plain.Out) h = absurd h
unread_none (endings.Plain plain.Link) h = absurd h
unread_none (endings.Plain plain.Start) h = absurd h
unread_none (endings.Plain plain.Range) h = absurd h
unread_none endings.Report h = refl
unread_none (endings.Wrong line) h = absurd h

-- Where reading ended early, the ending is none that comes of both.
pub not_both : {T : Type 0} (r : Result T AuditEnding) (e : AuditEnding) → IsErrAnd r (λ x. x ≡ e) → AreUnread e → is_of_both (ending_of r) ≡ true → ⊥
not_both r e by unread both = true≢false (sym both ∙ ap is_of_both (ap ending_of (came r e by)) ∙ unread_none e unread)

-- The statuses of such endings.
pub both_by_status : (e : AuditEnding) → status_of e ≢ 2 → status_of e ≢ 4 → status_of e ≢ 8 → is_of_both e ≡ true
both_by_status (endings.Plain plain.File) words file memory = absurd (file refl)
both_by_status (endings.Plain plain.Memory) words file memory = absurd (memory refl)
both_by_status (endings.Plain plain.Done) words file memory = refl
both_by_status (endings.Plain plain.Words) words file memory = absurd (words refl)
both_by_status (endings.Plain (plain.Scenario line)) words file memory = refl
both_by_status (endings.Plain plain.Out) words file memory = refl
both_by_status (endings.Plain plain.Link) words file memory = refl
both_by_status (endings.Plain plain.Start) words file memory = refl
both_by_status (endings.Plain plain.Range) words file memory = refl
both_by_status endings.Report words file memory = absurd (file refl)
both_by_status (endings.Wrong line) words file memory = refl
