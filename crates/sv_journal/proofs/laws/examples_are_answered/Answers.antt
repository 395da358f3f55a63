-- What the check leaves to prove of `examples_are_answered`.
use Rattle.sv_journal.proofs.Worked as worked
use Rattle.sv_journal.proofs.laws.examples_are_answered.Goals as goal

pub returns : goal.returns
returns c = record {
  only_influences_are_relayed = worked.only_influences_are_relayed;
  late_older_action = worked.late_older_action;
  completions_out_of_order = worked.completions_out_of_order;
  bound_1 = worked.bound_1;
  bound_0 = worked.bound_0;
  lost_relay = worked.lost_relay;
  retry_after_commit = worked.retry_after_commit;
  abandoned_action = worked.abandoned_action;
  refusals = worked.refusals;
  reach = worked.reach;
  one_action = worked.one_action;
  repeated_relay = worked.repeated_relay;
  observed = worked.observed;
  seen_counts_as_sent = worked.seen_counts_as_sent;
  rights = worked.rights;
  denied_again = worked.denied_again;
  denied_kept = worked.denied_kept;
  full = worked.full;
  leap = worked.leap;
  scenario_leap = worked.scenario_leap;
  steward_polls = worked.steward_polls;
  authority = worked.authority;
}
