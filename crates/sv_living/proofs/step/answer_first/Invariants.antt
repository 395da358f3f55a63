-- The same history.
use Rattle.sv_living.proofs.step.answer_first.Given as goal

abbrev pub ghost-answer : goal.ghost-answer
ghost-answer g a = g.g
