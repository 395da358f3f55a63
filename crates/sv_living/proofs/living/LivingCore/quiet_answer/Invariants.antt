-- The history so far.
use Rattle.sv_living.proofs.living.LivingCore.quiet_answer.Given as goal

abbrev pub ghost-answer_quietly : goal.ghost-answer_quietly
ghost-answer_quietly a = a.self.now.history
