-- What the check leaves to prove of `Witness::client`.
use Rattle.std.proofs.Common.{◌≡◌, reverse, sym, subst, ap, ◌∙◌}
use Rattle.sv_journal.specs.Answer.{MayBeSession}
use Rattle.sv_journal.specs.History.{client_of}
use Rattle.sv_core.specs.declared.seats.Seat.{Seat}
use Rattle.sv_core.specs.Cores.{SitsAt}
use Rattle.sv_sequencer.specs.Step.{SequencerView, history}
use Rattle.sv_witness.specs.Reports.{agreed_history}
use Rattle.sv_witness.proofs.Same.{client-agreed}
use Rattle.sv_witness.proofs.witness.Witness.client.Goals as goal

pub client-requires : goal.client-requires
client-requires c =
    subst (SitsAt c.self.inside.core) (sym c.own.ensures)
    (c.self.invariant.seats.seats c.args.session (subst (λ (v : SequencerView). MayBeSession v.rules.sessions c.args.session) (sym c.self.view_is) c.requires))

pub returns : goal.returns
returns c =
    subst (λ (v : SequencerView). c.client.result ≡ client_of (history v) c.args.session) c.self.view_is
    (c.client.ensures (agreed_history (reverse c.self.inside.journal.entries)) c.self.invariant.keeps
    ∙ ap (λ (x : Seat). client_of (agreed_history (reverse c.self.inside.journal.entries)) x.session) c.own.ensures ∙ client-agreed (reverse c.self.inside.journal.entries) c.args.session)
