-- The ghost arguments of `Witness::step`.
use Rattle.sv_sequencer.specs.Step.{history}
use Rattle.sv_witness.proofs.witness.Witness.step.Given as goal

abbrev pub ghost-end : goal.ghost-end
ghost-end a = history a.self.now

abbrev pub ghost-answer : goal.ghost-answer
ghost-answer a = history a.self.now
