-- The worked examples are as they say.
use Rattle.std.proofs.Common.{◌≡◌, pos, refl, [], ◌∷◌}
use Rattle.sv_world.specs.Faults.{first_fault_of_action, has_no_reads, has_too_many_reads, is_not_ascending, reads_no_object, has_bad_mask, has_slots, sets_in_mask, has_attrs, is_too_large, is_too_deep, has_origin}
use Rattle.sv_witness.specs.Witnessed.{IsWitnessed}
use Rattle.sv_witness.specs.Reports.{agreed_commit, agreed_world}
use Rattle.sv_witness.specs.Disputes.{disputes_of}
use Rattle.sv_witness.specs.Examples.{rules, two_objects, report, dispute, history_of, liar_is_outvoted_rows, client_counts_once_rows, look_needs_one_rows, late_report_rows, waiting_result_rows, observer_reports_rows, program_rows}

pub liar_is_outvoted : IsWitnessed rules (history_of liar_is_outvoted_rows)
unfolding first_fault_of_action has_no_reads has_too_many_reads is_not_ascending reads_no_object has_bad_mask has_slots sets_in_mask has_attrs is_too_large is_too_deep has_origin
liar_is_outvoted = (refl, (refl, (refl, (refl, (refl, (refl, (refl, (refl, (refl, (refl, tt))))))))))

pub client_counts_once : IsWitnessed rules (history_of client_counts_once_rows)
unfolding first_fault_of_action has_no_reads has_too_many_reads is_not_ascending reads_no_object has_bad_mask has_slots sets_in_mask has_attrs is_too_large is_too_deep has_origin
client_counts_once = (refl, (refl, (refl, (refl, (refl, (refl, (refl, tt)))))))

pub look_needs_one : IsWitnessed rules (history_of look_needs_one_rows)
unfolding first_fault_of_action has_no_reads has_too_many_reads is_not_ascending reads_no_object has_bad_mask has_slots sets_in_mask has_attrs is_too_large is_too_deep has_origin
look_needs_one = (refl, (refl, (refl, tt)))

pub late_report : IsWitnessed rules (history_of late_report_rows)
unfolding first_fault_of_action has_no_reads has_too_many_reads is_not_ascending reads_no_object has_bad_mask has_slots sets_in_mask has_attrs is_too_large is_too_deep has_origin
late_report = (refl, (refl, (refl, (refl, (refl, (refl, (refl, (refl, (refl, tt)))))))))

pub waiting_result : IsWitnessed two_objects (history_of waiting_result_rows)
unfolding first_fault_of_action has_no_reads has_too_many_reads is_not_ascending reads_no_object has_bad_mask has_slots sets_in_mask has_attrs is_too_large is_too_deep has_origin
waiting_result = (refl, (refl, (refl, (refl, (refl, (refl, (refl, (refl, (refl, (refl, (refl, (refl, (refl, tt)))))))))))))

pub observer_reports : IsWitnessed rules (history_of observer_reports_rows)
unfolding first_fault_of_action has_no_reads has_too_many_reads is_not_ascending reads_no_object has_bad_mask has_slots sets_in_mask has_attrs is_too_large is_too_deep has_origin
observer_reports = (refl, (refl, (refl, (refl, (refl, (refl, (refl, (refl, (refl, tt)))))))))

pub observed_world : agreed_world rules.world.values (history_of observer_reports_rows) ≡ (pos 1 ∷ []) ∷ []
observed_world = refl

pub program : IsWitnessed rules (history_of program_rows)
unfolding first_fault_of_action has_no_reads has_too_many_reads is_not_ascending reads_no_object has_bad_mask has_slots sets_in_mask has_attrs is_too_large is_too_deep has_origin
program = (refl, (refl, (refl, (refl, (refl, (refl, (refl, (refl, (refl, tt)))))))))

pub outvoted_dispute : disputes_of (history_of liar_is_outvoted_rows) ≡ dispute 1 (report 0 (7 ∷ [])) (report 1 (1 ∷ [])) ∷ []
outvoted_dispute = refl

pub outvoted_world : agreed_world rules.world.values (history_of liar_is_outvoted_rows) ≡ (pos 1 ∷ []) ∷ []
outvoted_world = refl

pub no_dispute_alone : disputes_of (history_of client_counts_once_rows) ≡ []
no_dispute_alone = refl

pub no_late_dispute : disputes_of (history_of late_report_rows) ≡ []
no_late_dispute = refl

pub waiting_dispute : disputes_of (history_of waiting_result_rows) ≡ dispute 2 (report 0 (5 ∷ [])) (report 2 (7 ∷ [])) ∷ []
waiting_dispute = refl

pub waiting_world : agreed_world two_objects.world.values (history_of waiting_result_rows) ≡ (pos 1 ∷ []) ∷ (pos 5 ∷ []) ∷ []
waiting_world = refl

pub program_commit : agreed_commit (history_of program_rows) ≡ 1
program_commit = refl

pub program_dispute : disputes_of (history_of program_rows) ≡ dispute 1 (report 0 (2 ∷ [])) (report 1 (1 ∷ [])) ∷ []
program_dispute = refl

pub program_world : agreed_world rules.world.values (history_of program_rows) ≡ (pos 1 ∷ []) ∷ []
program_world = refl
