-- What the check leaves to prove of `Witness::commit`.
use Rattle.std.proofs.Common.{◌≡◌, reverse, subst}
use Rattle.sv_sequencer.specs.Step.{SequencerView, history}
use Rattle.sv_witness.specs.Reports.{agreed_history, agreed_commit}
use Rattle.sv_witness.proofs.witness.Witness.commit.Goals as goal

pub returns : goal.returns
returns c =
    subst (λ (v : SequencerView). c.commit.result ≡ agreed_commit (history v)) c.self.view_is
    (c.commit.ensures (agreed_history (reverse c.self.inside.journal.entries)) c.self.invariant.keeps)
