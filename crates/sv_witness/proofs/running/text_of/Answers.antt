-- What was agreed has a value for each object.
use Rattle.std.proofs.Common.{◌∙◌}
use Rattle.sv_journal.proofs.Results.{committed_count}
use Rattle.sv_sequencer.specs.Step.{history}
use Rattle.sv_witness.specs.Reports.{agreed_history}
use Rattle.sv_witness.proofs.running.text_of.Goals as goal

pub committed_values-requires-clause-values : goal.committed_values-requires-clause-values
committed_values-requires-clause-values c =
    let w = c.args.lying.now.witness in
    committed_count w.rules.world.values (agreed_history (history w)) ∙ c.requires.values
