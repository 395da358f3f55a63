-- The ghost arguments of `Sequencer::step`.
use Rattle.sv_sequencer.specs.Step.{history}
use Rattle.sv_sequencer.proofs.sequencer.Sequencer.step.Given as goal

abbrev pub ghost-end : goal.ghost-end
ghost-end a = history a.self.now

abbrev pub ghost-answer : goal.ghost-answer
ghost-answer a = history a.self.now
