-- What the check leaves to prove of `Sequencer::end`.
use Rattle.std.proofs.Common.{◌<◌, List, refl, sym, ◌∙◌, ap, subst}
use Rattle.sv_journal.specs.declared.entry.Entry.{Entry}
use Rattle.sv_core.specs.Cores.{Keeps}
use Rattle.sv_sequencer.specs.Entering.{TookEntry}
use Rattle.sv_journal.specs.History.{end_entry}
use Rattle.sv_sequencer.specs.Step.{SequencerView, history}
use Rattle.sv_sequencer.proofs.Stepped.{sits-by-view, after-entry}
use Rattle.sv_sequencer.proofs.sequencer.Sequencer.end.Goals as goal

pub enter_end-requires : goal.enter_end-requires
enter_end-requires g c = (
  subst (Keeps c.self.inside.core) (ap history c.self.view_is ∙ sym c.requires.0) c.self.invariant.keeps,
  (sits-by-view c.self.inside _ c.args.session c.self.view_is c.self.invariant c.requires.1.0, (c.requires.1.1, c.self.invariant.room)),
)

pub invariant_of-self : goal.invariant_of-self
invariant_of-self g c =
    let a = c.self.inside in
    let e = end_entry c.args.session in
    after-entry a c.enter_end.new.core c.enter_end.new.journal e c.self.invariant
    (subst (λ (h : List Entry). TookEntry a.core c.enter_end.new.core a.journal c.enter_end.new.journal h e e) (c.requires.0 ∙ sym (ap history c.self.view_is)) c.enter_end.ensures) refl
