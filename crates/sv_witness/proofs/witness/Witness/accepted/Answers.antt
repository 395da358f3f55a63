-- What the check leaves to prove of `Witness::accepted`.
use Rattle.std.proofs.Common.{◌≡◌, List, length, reverse, ap, subst, ◌∙◌}
use Rattle.sv_journal.specs.History.{Authored, accepted}
use Rattle.sv_sequencer.specs.Step.{SequencerView, history}
use Rattle.sv_witness.specs.Reports.{agreed_history}
use Rattle.sv_witness.proofs.Same.{accepted-agreed}
use Rattle.sv_witness.proofs.witness.Witness.accepted.Goals as goal

pub returns : goal.returns
returns c =
    subst (λ (v : SequencerView). c.last.result ≡ length (accepted (history v))) c.self.view_is
    (c.last.ensures (agreed_history (reverse c.self.inside.journal.entries)) c.self.invariant.keeps
    ∙ ap (λ (A : List Authored). length A) (accepted-agreed (reverse c.self.inside.journal.entries)))
