-- What the check leaves to prove of `Sequencer::commit`.
use Rattle.std.proofs.Common.{◌≡◌, reverse, subst}
use Rattle.sv_journal.specs.History.{commit_of}
use Rattle.sv_sequencer.specs.Step.{SequencerView, history}
use Rattle.sv_sequencer.proofs.sequencer.Sequencer.commit.Goals as goal

pub returns : goal.returns
returns c =
    subst (λ (v : SequencerView). c.commit.result ≡ commit_of (history v)) c.self.view_is
    (c.commit.ensures (reverse c.self.inside.journal.entries) c.self.invariant.keeps)
