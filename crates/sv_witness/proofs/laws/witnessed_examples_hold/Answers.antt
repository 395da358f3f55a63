-- The worked examples are as they say.
use Rattle.sv_witness.proofs.Worked as worked
use Rattle.sv_witness.proofs.laws.witnessed_examples_hold.Goals as goal

pub returns : goal.returns
returns c = record {
  liar_is_outvoted = worked.liar_is_outvoted;
  outvoted_dispute = worked.outvoted_dispute;
  outvoted_world = worked.outvoted_world;
  client_counts_once = worked.client_counts_once;
  no_dispute_alone = worked.no_dispute_alone;
  look_needs_one = worked.look_needs_one;
  late_report = worked.late_report;
  no_late_dispute = worked.no_late_dispute;
  waiting_result = worked.waiting_result;
  waiting_dispute = worked.waiting_dispute;
  waiting_world = worked.waiting_world;
  observer_reports = worked.observer_reports;
  observed_world = worked.observed_world;
  program = worked.program;
  program_commit = worked.program_commit;
  program_dispute = worked.program_dispute;
  program_world = worked.program_world;
}
