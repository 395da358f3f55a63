-- What the check leaves to prove of `SequencerObject::step`.
use Rattle.sv_sequencer.proofs.Shared.{none-ended, step-entered, step-whole}
use Rattle.sv_sequencer.proofs.object.SequencerObject.step.Goals as goal

pub step-requires-clause-first : goal.step-requires-clause-first
step-requires-clause-first c = λ ends. none-ended c.args.self.now.journal.entries c.args.session (c.requires.first ends)

pub returns-clause-ok : goal.returns-clause-ok
returns-clause-ok c = step-entered _ _ _ _ _ c.step.ensures.ok

pub returns-clause-whole : goal.returns-clause-whole
returns-clause-whole c = step-whole _ _ _ _ _ c.step.ensures.ok
