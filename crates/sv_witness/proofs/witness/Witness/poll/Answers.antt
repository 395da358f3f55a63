-- What the check leaves to prove of `Witness::poll`.
use Rattle.std.proofs.Common.{◌≡◌, sym, ◌∙◌, ap, subst}
use Rattle.sv_journal.specs.Answer.{MayBeSession}
use Rattle.sv_journal.specs.History.{client_of}
use Rattle.sv_journal.specs.Sessions.{is_end}
use Rattle.sv_core.specs.declared.seats.Seat.{Seat}
use Rattle.sv_core.specs.Cores.{core_rules, queue_of, SitsAt}
use Rattle.sv_sequencer.specs.Step.{SequencerView}
use Rattle.sv_witness.specs.Reports.{agreed_history, due_to}
use Rattle.sv_witness.specs.Standing.{first_relay}
use Rattle.sv_witness.proofs.Decided.{poll-joined, poll-holds, poll-told, poll-quiet}
use Rattle.sv_witness.proofs.DuePositions.{due-are}
use Rattle.sv_witness.proofs.Same.{client-agreed}
use Rattle.sv_witness.proofs.Stepped.{stands-for}
use Rattle.sv_witness.proofs.witness.Witness.poll.Goals as goal

pub client-requires : goal.client-requires
client-requires g c =
    subst (SitsAt c.self.inside.core) (sym c.own-seat.ensures)
    (c.self.invariant.seats.seats c.args.session (subst (λ (v : SequencerView). MayBeSession v.rules.sessions c.args.session) (sym c.self.view_is) c.requires.1.0))

-- a session without a client would have been refused
pub unreachable-requires : goal.unreachable-requires
unreachable-requires g c =
    let h = g.h in
    let s = c.args.session in
    let is = stands-for c.self.inside c.args.self.now h c.self.invariant c.self.view_is c.requires.0 in
    let has = poll-joined c.args.self.now.rules h s c.args.request c.requires.1.1.0 c.requires.1.1.1 in
    c.in_default.not-Some has.client (c.client.ensures (agreed_history h) is.keeps ∙ ap (λ (x : Seat). client_of (agreed_history h) x.session) c.own-seat.ensures ∙ client-agreed h s ∙ has.joined)

pub keep-requires : goal.keep-requires
keep-requires g c =
    let a = c.self.inside in
    let r = c.args.self.now.rules in
    let h = g.h in
    let s = c.args.session in
    let k = c.in-Some.client in
    let q = c.args.request in
    let d = c.due_decision-decision.result in
    let is = stands-for a c.args.self.now h c.self.invariant c.self.view_is c.requires.0 in
    let sits = c.self.invariant.seats.seats s (subst (λ (v : SequencerView). MayBeSession v.rules.sessions s) (sym c.self.view_is) c.requires.1.0) in
    let joined = sym (client-agreed h s) ∙ sym (c.client.ensures (agreed_history h) is.keeps ∙ ap (λ (x : Seat). client_of (agreed_history h) x.session) c.own-seat.ensures) ∙ c.in-Some.is in
    let due : d ≡ first_relay (due_to h s) =
    c.due_decision-decision.ensures
    ∙ ap first_relay (due-are (core_rules a.core) h (queue_of a.core) a.testimony.reports a.core.sessions.items k s is.keeps.few sits joined is.stands.reports is.keeps.commit is.keeps.sound.sent is.keeps.fits) in
    let asked = c.requires.1.1.0 in
    let reply = c.requires.1.1.1 in (
      c.requires.0,
      (
        c.requires.1.0,
        (
          ap is_end asked,
          (poll-holds r h s q d asked due reply, (poll-told r h s q d asked due reply, poll-quiet r h s q d asked due reply)),
        ),
      ),
    )
