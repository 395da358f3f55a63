-- The worked examples are answered as they say.
use Rattle.std.proofs.Common.{refl, true, false, Some, None, [], ◌∷◌}
use Rattle.sv_world.specs.Faults.{first_fault_of_action, has_no_reads, has_too_many_reads, is_not_ascending, reads_no_object, has_bad_mask, has_slots, sets_in_mask, has_attrs, is_too_large, is_too_deep, has_origin}
use Rattle.sv_journal.specs.Living.{living}
use Rattle.sv_journal.specs.Examples.{opened, AreReplies, only_influences_are_relayed_rows, late_older_action_rows, completions_out_of_order_rows, bound_1_rows, bound_0_rows, lost_relay_rows, retry_after_commit_rows, abandoned_action_rows, refusals_rows, reach_rows, one_action_rows, repeated_relay_rows, observed_rows, seen_counts_as_sent_rows, lasting, over, some_rights, AreRepliesFor, rights_rows, denied_again_rows, denied_kept_rows, one_position, full_rows, leap_rows, scenario_leap_rows, steward_9, steward_polls_rows, authority_rows}

pub only_influences_are_relayed : AreReplies (opened (10 ∷ 20 ∷ 30 ∷ 40 ∷ []) 8 None) only_influences_are_relayed_rows
unfolding first_fault_of_action has_no_reads has_too_many_reads is_not_ascending reads_no_object has_bad_mask has_slots sets_in_mask has_attrs is_too_large is_too_deep has_origin
only_influences_are_relayed = refl

pub late_older_action : AreReplies (opened (100 ∷ 5 ∷ []) 8 None) late_older_action_rows
unfolding first_fault_of_action has_no_reads has_too_many_reads is_not_ascending reads_no_object has_bad_mask has_slots sets_in_mask has_attrs is_too_large is_too_deep has_origin
late_older_action = refl

pub completions_out_of_order : AreReplies (opened (0 ∷ 0 ∷ []) 8 None) completions_out_of_order_rows
unfolding first_fault_of_action has_no_reads has_too_many_reads is_not_ascending reads_no_object has_bad_mask has_slots sets_in_mask has_attrs is_too_large is_too_deep has_origin
completions_out_of_order = refl

pub bound_1 : AreReplies (opened (0 ∷ []) 1 None) bound_1_rows
unfolding first_fault_of_action has_no_reads has_too_many_reads is_not_ascending reads_no_object has_bad_mask has_slots sets_in_mask has_attrs is_too_large is_too_deep has_origin
bound_1 = refl

pub bound_0 : AreReplies (opened (0 ∷ []) 0 None) bound_0_rows
unfolding first_fault_of_action has_no_reads has_too_many_reads is_not_ascending reads_no_object has_bad_mask has_slots sets_in_mask has_attrs is_too_large is_too_deep has_origin
bound_0 = refl

pub lost_relay : AreReplies (opened (0 ∷ []) 8 None) lost_relay_rows
unfolding first_fault_of_action has_no_reads has_too_many_reads is_not_ascending reads_no_object has_bad_mask has_slots sets_in_mask has_attrs is_too_large is_too_deep has_origin
lost_relay = refl

pub retry_after_commit : AreReplies (opened (0 ∷ []) 8 None) retry_after_commit_rows
unfolding first_fault_of_action has_no_reads has_too_many_reads is_not_ascending reads_no_object has_bad_mask has_slots sets_in_mask has_attrs is_too_large is_too_deep has_origin
retry_after_commit = refl

pub abandoned_action : AreReplies (opened (0 ∷ []) 8 None) abandoned_action_rows
unfolding first_fault_of_action has_no_reads has_too_many_reads is_not_ascending reads_no_object has_bad_mask has_slots sets_in_mask has_attrs is_too_large is_too_deep has_origin
abandoned_action = refl

pub refusals : AreReplies (opened (0 ∷ []) 8 None) refusals_rows
unfolding first_fault_of_action has_no_reads has_too_many_reads is_not_ascending reads_no_object has_bad_mask has_slots sets_in_mask has_attrs is_too_large is_too_deep has_origin
refusals = refl

pub reach : AreReplies (opened (0 ∷ []) 8 (Some 10)) reach_rows
unfolding first_fault_of_action has_no_reads has_too_many_reads is_not_ascending reads_no_object has_bad_mask has_slots sets_in_mask has_attrs is_too_large is_too_deep has_origin
reach = refl

pub one_action : AreReplies (opened (5 ∷ []) 4 None) one_action_rows
unfolding first_fault_of_action has_no_reads has_too_many_reads is_not_ascending reads_no_object has_bad_mask has_slots sets_in_mask has_attrs is_too_large is_too_deep has_origin
one_action = refl

pub repeated_relay : AreReplies (opened (0 ∷ []) 8 None) repeated_relay_rows
unfolding first_fault_of_action has_no_reads has_too_many_reads is_not_ascending reads_no_object has_bad_mask has_slots sets_in_mask has_attrs is_too_large is_too_deep has_origin
repeated_relay = refl

pub observed : AreReplies (opened (10 ∷ 20 ∷ []) 4 None) observed_rows
unfolding first_fault_of_action has_no_reads has_too_many_reads is_not_ascending reads_no_object has_bad_mask has_slots sets_in_mask has_attrs is_too_large is_too_deep has_origin
observed = refl

pub seen_counts_as_sent : AreReplies (opened (10 ∷ 20 ∷ []) 4 None) seen_counts_as_sent_rows
unfolding first_fault_of_action has_no_reads has_too_many_reads is_not_ascending reads_no_object has_bad_mask has_slots sets_in_mask has_attrs is_too_large is_too_deep has_origin
seen_counts_as_sent = refl

pub rights : AreReplies (lasting (10 ∷ 20 ∷ 30 ∷ 40 ∷ 50 ∷ 60 ∷ []) (Some some_rights)) rights_rows
unfolding first_fault_of_action has_no_reads has_too_many_reads is_not_ascending reads_no_object has_bad_mask has_slots sets_in_mask has_attrs is_too_large is_too_deep has_origin
rights = refl

pub denied_again : AreReplies (lasting (10 ∷ 20 ∷ []) (Some (over 0 0 0 0 ∷ []))) denied_again_rows
unfolding first_fault_of_action has_no_reads has_too_many_reads is_not_ascending reads_no_object has_bad_mask has_slots sets_in_mask has_attrs is_too_large is_too_deep has_origin
denied_again = refl

pub denied_kept : AreReplies (lasting (10 ∷ []) (Some [])) denied_kept_rows
unfolding first_fault_of_action has_no_reads has_too_many_reads is_not_ascending reads_no_object has_bad_mask has_slots sets_in_mask has_attrs is_too_large is_too_deep has_origin
denied_kept = refl

pub full : AreReplies one_position full_rows
unfolding first_fault_of_action has_no_reads has_too_many_reads is_not_ascending reads_no_object has_bad_mask has_slots sets_in_mask has_attrs is_too_large is_too_deep has_origin
full = refl

pub leap : AreReplies (lasting (10 ∷ []) None) leap_rows
unfolding first_fault_of_action has_no_reads has_too_many_reads is_not_ascending reads_no_object has_bad_mask has_slots sets_in_mask has_attrs is_too_large is_too_deep has_origin
leap = refl

pub scenario_leap : AreReplies (opened (10 ∷ []) 8 None) scenario_leap_rows
unfolding first_fault_of_action has_no_reads has_too_many_reads is_not_ascending reads_no_object has_bad_mask has_slots sets_in_mask has_attrs is_too_large is_too_deep has_origin
scenario_leap = refl

pub steward_polls : AreRepliesFor (living (steward_9 false)) (lasting (10 ∷ 20 ∷ []) None) steward_polls_rows
unfolding first_fault_of_action has_no_reads has_too_many_reads is_not_ascending reads_no_object has_bad_mask has_slots sets_in_mask has_attrs is_too_large is_too_deep has_origin
steward_polls = refl

pub authority : AreRepliesFor (living (steward_9 true)) (lasting (10 ∷ []) None) authority_rows
unfolding first_fault_of_action has_no_reads has_too_many_reads is_not_ascending reads_no_object has_bad_mask has_slots sets_in_mask has_attrs is_too_large is_too_deep has_origin
authority = refl
