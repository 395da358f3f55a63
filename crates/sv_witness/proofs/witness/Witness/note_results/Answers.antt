-- What the check leaves to prove of `Witness::note_results`.
use Rattle.std.proofs.Common.{◌≡◌, ◌≤◌, false, All, List, Some, IfOk, OnErr, sym, ◌∙◌, ap, subst}
use Rattle.std.proofs.lemmas.Result.{IfOk-weaker, on_err_weaker}
use Rattle.sv_wire.specs.declared.message.Done1.{Done1}
use Rattle.sv_queue.specs.Queue.{QueueView, last_position}
use Rattle.sv_journal.specs.declared.entry.Entry.{Entry}
use Rattle.sv_journal.specs.History.{client_of}
use Rattle.sv_journal.specs.Answer.{MayBeSession, is_bad_done}
use Rattle.sv_journal.specs.Serving.{noted_after}
use Rattle.sv_core.specs.declared.seats.Seat.{Seat}
use Rattle.sv_core.specs.Cores.{core_rules, session_at, queue_of, SitsAt}
use Rattle.sv_core.specs.Decisions.{results_in}
use Rattle.sv_sequencer.specs.Entering.{NothingEntered}
use Rattle.sv_sequencer.specs.Step.{SequencerView, history}
use Rattle.sv_witness.specs.declared.testimony.Asker.{Asker}
use Rattle.sv_witness.specs.declared.testimony.Testimony.{Testimony}
use Rattle.sv_witness.specs.Reports.{agreed_history}
use Rattle.sv_witness.specs.declared.report.Dispute.{Dispute}
use Rattle.sv_witness.specs.Kept.{kept_at, counted_results, agreed_results, new_disputes, KeepsBeside}
use Rattle.sv_witness.specs.Standing.{Replied}
use Rattle.sv_witness.specs.Witnessed.{agreed, witnessed_reply}
use Rattle.sv_witness.proofs.Decided.{done-joined}
use Rattle.sv_witness.proofs.KeptRows.{same-counted, same-agreed, same-disputes}
use Rattle.sv_witness.proofs.Same.{client-agreed}
use Rattle.sv_witness.proofs.Stepped.{stands-for, same-stands, after-reply, witnessed}
use Rattle.sv_witness.proofs.Steps.{reported-low}
use Rattle.sv_witness.proofs.witness.Witness.note_results.Goals as goal

pub client-requires : goal.client-requires
client-requires g c =
    subst (SitsAt c.self.inside.core) (sym c.own-seat.ensures)
    (c.self.invariant.seats.seats c.args.session (subst (λ (v : SequencerView). MayBeSession v.rules.sessions c.args.session) (sym c.self.view_is) c.requires.1.0))

-- a session without a client would have been refused
pub unreachable-requires : goal.unreachable-requires
unreachable-requires g c =
    let h = g.h in
    let s = c.args.session in
    let is = stands-for c.self.inside c.args.self.now h c.self.invariant c.self.view_is c.requires.0 in
    let has = done-joined c.args.self.now.rules h s c.args.request c.requires.1.1.0 c.requires.1.1.1.1 in
    c.in_default.not-Some has.client (c.client.ensures (agreed_history h) is.keeps ∙ ap (λ (x : Seat). client_of (agreed_history h) x.session) c.own-seat.ensures ∙ client-agreed h s ∙ has.joined)

pub note_ahead-requires : goal.note_ahead-requires
note_ahead-requires g c =
    let a = c.self.inside in
    let h = g.h in
    let s = c.args.session in
    let is = stands-for a c.args.self.now h c.self.invariant c.self.view_is c.requires.0 in
    let joined = sym (client-agreed h s) ∙ sym (c.client.ensures (agreed_history h) is.keeps ∙ ap (λ (x : Seat). client_of (agreed_history h) x.session) c.own-seat.ensures) ∙ c.in-Some.is in
    let good = subst (λ (v : SequencerView). is_bad_done v.rules (agreed_history h) s (results_in c.args.request) ≡ false) (sym c.self.view_is) c.requires.1.1.1.0 in
    subst (λ (v : QueueView). All (λ (d : Done1). d.pos ≤ last_position v) c.reported_by.result.now) (sym c.queue.ensures)
    (subst (All (λ (d : Done1). d.pos ≤ last_position (queue_of a.core))) (sym c.reported_by.ensures)
    (reported-low (core_rules a.core) h s c.in-Some.client (results_in c.args.request) joined good (queue_of a.core) is.keeps.fits.last))

pub install-requires : goal.install-requires
install-requires g c =
    let a = c.self.inside in
    let h = g.h in
    let s = c.args.session in
    let k = c.in-Some.client in
    let q = c.args.request in
    let v = queue_of a.core in
    let rows = a.testimony.reports in
    let new = c.note_ahead.new.testimony.reports in
    let noting = c.in-Ok.noting in
    let said = c.in-Ok.ensures in
    let same = c.note_ahead.ensures.reports in
    let is = stands-for a c.args.self.now h c.self.invariant c.self.view_is c.requires.0 in
    let joined = sym (client-agreed h s) ∙ sym (c.client.ensures (agreed_history h) is.keeps ∙ ap (λ (x : Seat). client_of (agreed_history h) x.session) c.own-seat.ensures) ∙ c.in-Some.is in
    let good = subst (λ (w : SequencerView). is_bad_done w.rules (agreed_history h) s (results_in q) ≡ false) (sym c.self.view_is) c.requires.1.1.1.0 in
    let reply = subst (λ (w : SequencerView). witnessed_reply w.rules h s q ≡ noted_after agreed h s q) (sym c.self.view_is) c.requires.1.1.1.1 in
    let sits = c.self.invariant.seats.seats s (subst (λ (w : SequencerView). MayBeSession w.rules.sessions s) (sym c.self.view_is) c.requires.1.0) in
    let stands = subst (λ (ds : List Dispute). KeepsBeside (core_rules a.core) new ds h) (sym c.note_ahead.ensures.disputes)
    (same-stands (core_rules a.core) rows new a.testimony.disputes.items h same is.stands) in
    let named = sym (ap (λ (asker : Asker). asker.client) said.asker) in
    let at = sym (ap (λ (asker : Asker). asker.session) said.asker) in
    let counted = said.counted ∙ ap (λ (w : QueueView). counted_results w.commit rows k c.reported_by.result.now) c.queue.ensures ∙ ap (counted_results v.commit rows k) c.reported_by.ensures
    ∙ sym (same-counted rows new same v.commit k (results_in q)) ∙ ap (λ n. counted_results v.commit new n (results_in q)) named in
    let brought = said.agreed ∙ ap (agreed_results c.queue.result.now rows) (sym said.counted) ∙ ap (λ (w : QueueView). agreed_results w rows noting.counted.items) c.queue.ensures
    ∙ sym (same-agreed rows new same v noting.counted.items) in
    let made = said.made ∙ ap (new_disputes rows k) (sym said.counted) ∙ sym (same-disputes rows new same k noting.counted.items)
    ∙ ap (λ n. new_disputes new n noting.counted.items) named in (
      record { keeps = is.keeps; seats = is.seats; stands = stands },
      (
        subst (λ n. session_at a.core n ≡ Some n) at sits,
        (
          ap (client_of h) (sym at) ∙ joined ∙ ap Some named,
          (
            c.requires.1.1.0,
            (
              subst (λ n. is_bad_done (core_rules a.core) (agreed_history h) n (results_in q) ≡ false) at good,
              (
                subst (λ n. witnessed_reply (core_rules a.core) h n q ≡ noted_after agreed h n q) at reply,
                (counted, (brought, (made, (said.rows, said.places)))),
              ),
            ),
          ),
        ),
      ),
    )

pub invariant_of-self-2 : goal.invariant_of-self-2
invariant_of-self-2 g c =
    let a = c.self.inside in
    let s = c.args.session in
    let q = c.args.request in
    let result = c.install.result in
    let core = c.install.new.core in
    let journal = c.install.new.journal in
    let kept = c.install.new.testimony in
    let at = c.requires.0 ∙ sym (ap history c.self.view_is) in
    let asked = ap (λ (asker : Asker). asker.session) c.in-Ok.ensures.asker in
    after-reply a (record a { core = core; journal = journal; testimony = kept }) s q result c.self.invariant
    (subst (λ (h : List Entry). IfOk result (Replied a.core core a.journal journal kept.reports kept.disputes.items h s q)) at
    (subst (λ n. IfOk result (Replied a.core core a.journal journal kept.reports kept.disputes.items g.h n q)) asked c.install.ensures.ok))
    (subst (λ (h : List Entry). OnErr result (NothingEntered a.core core a.journal journal (agreed_history h))) at c.install.ensures.err)
    (on_err_weaker result (λ same p. ap (λ (t : Testimony). kept_at t.reports p) same ∙ c.note_ahead.ensures.reports p) c.install.ensures.testimony)
    (on_err_weaker result (λ same. ap (λ (t : Testimony). t.disputes.items) same ∙ c.note_ahead.ensures.disputes) c.install.ensures.testimony)

pub returns-clause-ok : goal.returns-clause-ok
returns-clause-ok g c =
    let a = c.self.inside in
    let s = c.args.session in
    let q = c.args.request in
    let core = c.install.new.core in
    let journal = c.install.new.journal in
    let kept = c.install.new.testimony in
    let at = c.requires.0 ∙ sym (ap history c.self.view_is) in
    let asked = ap (λ (asker : Asker). asker.session) c.in-Ok.ensures.asker in
    IfOk-weaker c.install.result _ _ (witnessed a (record a { core = core; journal = journal; testimony = kept }) s q c.args.self.now c.self.view_is)
    (subst (λ (h : List Entry). IfOk c.install.result (Replied a.core core a.journal journal kept.reports kept.disputes.items h s q)) at
    (subst (λ n. IfOk c.install.result (Replied a.core core a.journal journal kept.reports kept.disputes.items g.h n q)) asked c.install.ensures.ok))
