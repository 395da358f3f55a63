-- The history so far.
use Rattle.sv_living.proofs.living.LivingCore.step.Given as goal

abbrev pub ghost-answer : goal.ghost-answer
ghost-answer a = a.self.now.history
