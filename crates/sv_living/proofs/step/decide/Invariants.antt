-- The core decides by the results that count.
use Rattle.sv_journal.specs.Living.{heeded}
use Rattle.sv_living.proofs.step.decide.Given as goal

abbrev pub ghost-decide : goal.ghost-decide
ghost-decide g a = heeded g.g.w g.g.h

abbrev pub ghost-is_due : goal.ghost-is_due
ghost-is_due g a = g.g

abbrev pub ghost-due_decision : goal.ghost-due_decision
ghost-due_decision g a = heeded g.g.w g.g.h

abbrev pub ghost-is_due_poll : goal.ghost-is_due_poll
ghost-is_due_poll g a = g.g
