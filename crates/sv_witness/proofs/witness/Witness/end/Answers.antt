-- What the check leaves to prove of `Witness::end`.
use Rattle.std.proofs.Common.{List, ◌∷◌, reverse, sym, ◌∙◌, ap, subst}
use Rattle.sv_journal.specs.Answer.{MayBeSession}
use Rattle.sv_journal.specs.declared.entry.Entry.{Entry}
use Rattle.sv_core.specs.Cores.{Keeps}
use Rattle.sv_journal.specs.History.{end_entry}
use Rattle.sv_sequencer.specs.Step.{SequencerView, history}
use Rattle.sv_witness.specs.Reports.{agreed_history}
use Rattle.sv_witness.proofs.Stepped.{after-end, ended-agreed, grown}
use Rattle.sv_witness.proofs.witness.Witness.end.Goals as goal

pub enter_end-requires : goal.enter_end-requires
enter_end-requires g c = (
  subst (λ (h : List Entry). Keeps c.self.inside.core (agreed_history h)) (ap history c.self.view_is ∙ sym c.requires.0) c.self.invariant.keeps,
  (
    c.self.invariant.seats.seats c.args.session (subst (λ (v : SequencerView). MayBeSession v.rules.sessions c.args.session) (sym c.self.view_is) c.requires.1.0),
    (ended-agreed g.h c.args.session ∙ c.requires.1.1, c.self.invariant.room),
  ),
)

pub invariant_of-self : goal.invariant_of-self
invariant_of-self g c =
    let a = c.self.inside in
    let s = c.args.session in
    let core = c.enter_end.new.core in
    let at = c.requires.0 ∙ sym (ap history c.self.view_is) in
    grown (record a { core = core; journal = c.enter_end.new.journal }) a.journal.entries (end_entry s) c.enter_end.ensures.entries
    (after-end a.core core a.testimony.reports a.testimony.disputes.items (reverse a.journal.entries) s (record { keeps = c.self.invariant.keeps; seats = c.self.invariant.seats; stands = c.self.invariant.stands })
    c.enter_end.ensures.rules c.enter_end.ensures.seats (subst (λ (h : List Entry). Keeps core (end_entry s ∷ agreed_history h)) at c.enter_end.ensures.keeps))
    c.enter_end.ensures.room
