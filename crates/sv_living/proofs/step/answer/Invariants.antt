-- The core is asked of the history that it goes by.
use Rattle.sv_journal.specs.Living.{heeded}
use Rattle.sv_living.proofs.step.answer.Given as goal

abbrev pub ghost-decide : goal.ghost-decide
ghost-decide g a = g.g

abbrev pub ghost-is_silent : goal.ghost-is_silent
ghost-is_silent g a = g.g

abbrev pub ghost-carry_out : goal.ghost-carry_out
ghost-carry_out g a = heeded g.g.w g.g.h
