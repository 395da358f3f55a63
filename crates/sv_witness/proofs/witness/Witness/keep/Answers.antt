-- What the check leaves to prove of `Witness::keep`.
use Rattle.std.proofs.Common.{List, OnErr, refl, sym, ◌∙◌, ap, subst}
use Rattle.std.proofs.lemmas.Result.{IfOk-weaker, on_err_weaker}
use Rattle.sv_journal.specs.Answer.{MayBeSession}
use Rattle.sv_journal.specs.declared.entry.Entry.{Entry}
use Rattle.sv_core.specs.Cores.{Keeps}
use Rattle.sv_core.specs.Decisions.{DecisionHolds}
use Rattle.sv_sequencer.specs.Entering.{NothingEntered}
use Rattle.sv_sequencer.specs.Step.{SequencerView, history}
use Rattle.sv_witness.specs.Reports.{agreed_history}
use Rattle.sv_witness.specs.Standing.{emptied}
use Rattle.sv_witness.proofs.Stepped.{kept-replied, after-reply, witnessed}
use Rattle.sv_witness.proofs.witness.Witness.keep.Goals as goal

pub enter_emptied-requires : goal.enter_emptied-requires
enter_emptied-requires g c = (
  subst (λ (h : List Entry). Keeps c.self.inside.core (agreed_history h)) (ap history c.self.view_is ∙ sym c.requires.0) c.self.invariant.keeps,
  (
    c.self.invariant.seats.seats c.args.session (subst (λ (v : SequencerView). MayBeSession v.rules.sessions c.args.session) (sym c.self.view_is) c.requires.1.0),
    (
      c.requires.1.1.0,
      subst (λ (v : SequencerView). DecisionHolds v.rules (agreed_history g.h) c.args.session (emptied c.args.request) c.args.decision) (sym c.self.view_is) c.requires.1.1.1.0,
    ),
  ),
)

pub invariant_of-self : goal.invariant_of-self
invariant_of-self g c =
    let a = c.self.inside in
    let s = c.args.session in
    let q = c.args.request in
    let result = c.enter_emptied.result in
    let core = c.enter_emptied.new.core in
    let journal = c.enter_emptied.new.journal in
    let done = IfOk-weaker result _ _ (λ reply is. kept-replied a core journal g.h c.args.self.now s q c.args.decision reply c.self.invariant c.self.view_is c.requires.0 is
    c.requires.1.1.1.1.0 c.requires.1.1.1.1.1) c.enter_emptied.ensures.ok in
    let none = subst (λ (h : List Entry). OnErr result (NothingEntered a.core core a.journal journal (agreed_history h))) (c.requires.0 ∙ sym (ap history c.self.view_is)) c.enter_emptied.ensures.err in
    after-reply a (record a { core = core; journal = journal }) s q result c.self.invariant done none (on_err_weaker result (λ _ p. refl) none) (on_err_weaker result (λ _. refl) none)

pub returns-clause-ok : goal.returns-clause-ok
returns-clause-ok g c =
    let a = c.self.inside in
    let s = c.args.session in
    let q = c.args.request in
    let core = c.enter_emptied.new.core in
    let journal = c.enter_emptied.new.journal in
    IfOk-weaker c.enter_emptied.result _ _ (λ reply is. witnessed a (record a { core = core; journal = journal }) s q c.args.self.now c.self.view_is reply
    (kept-replied a core journal g.h c.args.self.now s q c.args.decision reply c.self.invariant c.self.view_is c.requires.0 is c.requires.1.1.1.1.0 c.requires.1.1.1.1.1)) c.enter_emptied.ensures.ok
