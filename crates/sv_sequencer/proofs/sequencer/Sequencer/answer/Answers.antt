-- What the check leaves to prove of `Sequencer::answer`.
use Rattle.std.proofs.Common.{◌≡◌, ◌<◌, List, IfOk, OnErr, sym, ◌∙◌, ap, subst}
use Rattle.sv_journal.specs.declared.entry.Entry.{Entry}
use Rattle.sv_journal.specs.Answer.{reply_to, reply_to_request}
use Rattle.sv_core.specs.declared.seats.Seat.{Seat}
use Rattle.sv_core.specs.Cores.{core_rules, Keeps, SitsAt}
use Rattle.sv_core.specs.Decisions.{reply_by, DecisionHolds}
use Rattle.sv_sequencer.specs.Entering.{EnteredReply, NothingEntered}
use Rattle.sv_sequencer.specs.Step.{SequencerView, history}
use Rattle.sv_sequencer.proofs.Stepped.{sits-by-view, reply-open, after-reply}
use Rattle.sv_sequencer.proofs.sequencer.Sequencer.answer.Goals as goal

pub decide-decision-requires : goal.decide-decision-requires
decide-decision-requires g c = (
  subst (Keeps c.self.inside.core) (ap history c.self.view_is ∙ sym c.requires.0) c.self.invariant.keeps,
  subst (SitsAt c.self.inside.core) (sym c.own-seat.ensures) (sits-by-view c.self.inside _ c.args.session c.self.view_is c.self.invariant c.requires.1.0),
)

pub enter_reply-requires : goal.enter_reply-requires
enter_reply-requires g c = (
  subst (Keeps c.self.inside.core) (ap history c.self.view_is ∙ sym c.requires.0) c.self.invariant.keeps,
  (
    sits-by-view c.self.inside _ c.args.session c.self.view_is c.self.invariant c.requires.1.0,
    (
      c.requires.1.1,
      subst (λ (x : Seat). DecisionHolds (core_rules c.self.inside.core) g.h x.session c.args.request c.decide-decision.result) c.own-seat.ensures
          c.decide-decision.ensures.holds,
    ),
  ),
)

pub invariant_of-self : goal.invariant_of-self
invariant_of-self g c =
    let a = c.self.inside in
    let s = c.args.session in
    let q = c.args.request in
    let d = c.decide-decision.result in
    let core = c.enter_reply.new.core in
    let journal = c.enter_reply.new.journal in
    let at = c.requires.0 ∙ sym (ap history c.self.view_is) in
    let decided = subst (λ (x : Seat). reply_by (core_rules a.core) g.h x.session q d ≡ reply_to_request (core_rules a.core) g.h x.session q) c.own-seat.ensures
    c.decide-decision.ensures.reply in
    let told = decided ∙ sym (reply-open (core_rules a.core) g.h s q c.requires.1.1) in
    after-reply a core journal s q d c.enter_reply.result c.self.invariant
    (subst (λ (h : List Entry). reply_by (core_rules a.core) h s q d ≡ reply_to (core_rules a.core) h s q) at told)
    (subst (λ (h : List Entry). IfOk c.enter_reply.result (EnteredReply a.core core a.journal journal h s q q d)) at c.enter_reply.ensures.ok)
    (subst (λ (h : List Entry). OnErr c.enter_reply.result (NothingEntered a.core core a.journal journal h)) at c.enter_reply.ensures.err)
