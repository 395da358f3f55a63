-- The committed world has a value for each object.
use Rattle.std.proofs.Common.{◌∙◌}
use Rattle.sv_journal.proofs.Results.{committed_count}
use Rattle.sv_sequencer.specs.Step.{history}
use Rattle.sv_replay.proofs.played.played_of.Goals as goal

pub committed_values-requires-clause-values : goal.committed_values-requires-clause-values
committed_values-requires-clause-values c = committed_count c.args.sequencer.rules.world.values (history c.args.sequencer) ∙ c.requires.values
