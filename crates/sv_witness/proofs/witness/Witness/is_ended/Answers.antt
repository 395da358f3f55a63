-- What the check leaves to prove of `Witness::is_ended`.
use Rattle.std.proofs.Common.{◌≡◌, reverse, sym, subst, ap, ◌∙◌}
use Rattle.sv_journal.specs.Answer.{MayBeSession}
use Rattle.sv_journal.specs.Sessions.{is_ended}
use Rattle.sv_core.specs.declared.seats.Seat.{Seat}
use Rattle.sv_core.specs.Cores.{SitsAt}
use Rattle.sv_sequencer.specs.Step.{SequencerView, history}
use Rattle.sv_witness.specs.Reports.{agreed_history}
use Rattle.sv_witness.proofs.Stepped.{ended-agreed}
use Rattle.sv_witness.proofs.witness.Witness.is_ended.Goals as goal

pub is_ended-requires : goal.is_ended-requires
is_ended-requires c =
    subst (SitsAt c.self.inside.core) (sym c.own.ensures)
    (c.self.invariant.seats.seats c.args.session (subst (λ (v : SequencerView). MayBeSession v.rules.sessions c.args.session) (sym c.self.view_is) c.requires))

pub returns : goal.returns
returns c =
    subst (λ (v : SequencerView). c.is_ended.result ≡ is_ended (history v) c.args.session) c.self.view_is
    (c.is_ended.ensures (agreed_history (reverse c.self.inside.journal.entries)) c.self.invariant.keeps
    ∙ ap (λ (x : Seat). is_ended (agreed_history (reverse c.self.inside.journal.entries)) x.session) c.own.ensures ∙ ended-agreed (reverse c.self.inside.journal.entries) c.args.session)
