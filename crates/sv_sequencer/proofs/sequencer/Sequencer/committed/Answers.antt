-- What the check leaves to prove of `Sequencer::committed`.
use Rattle.std.proofs.Common.{◌≡◌, ◌<◌, [], slice_index_or, reverse, sym, subst}
use Rattle.sv_journal.specs.History.{committed_of}
use Rattle.sv_sequencer.specs.Step.{SequencerView, history}
use Rattle.sv_sequencer.proofs.sequencer.Sequencer.committed.Goals as goal

pub committed-requires-clause-kept : goal.committed-requires-clause-kept
committed-requires-clause-kept c = (reverse c.self.inside.journal.entries, c.self.invariant.keeps)

pub committed-requires-clause-object : goal.committed-requires-clause-object
committed-requires-clause-object c = subst (λ (v : SequencerView). c.args.object.0 < v.rules.world.shape.objects) (sym c.self.view_is) c.requires

pub returns : goal.returns
returns c =
    subst (λ (v : SequencerView). c.committed.result.now ≡ slice_index_or (committed_of v.rules.world.values (history v)) c.args.object.0 []) c.self.view_is
    (c.committed.ensures (reverse c.self.inside.journal.entries) c.self.invariant.keeps)
