-- The same history at each call.
use Rattle.sv_journal.specs.Living.{heeded}
use Rattle.sv_living.proofs.step.begin.Given as goal

abbrev pub ghost-open : goal.ghost-open
ghost-open g a = heeded g.g.w g.g.h

abbrev pub ghost-answer_first : goal.ghost-answer_first
ghost-answer_first g a = g.g

abbrev pub ghost-close : goal.ghost-close
ghost-close g a = heeded g.g.w g.g.h
