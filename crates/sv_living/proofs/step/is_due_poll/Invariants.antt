-- The same history, and by the results that count.
use Rattle.sv_journal.specs.Living.{heeded}
use Rattle.sv_living.proofs.step.is_due_poll.Given as goal

abbrev pub ghost-is_stewards : goal.ghost-is_stewards
ghost-is_stewards g a = g.g.h

abbrev pub ghost-may_poll : goal.ghost-may_poll
ghost-may_poll g a = heeded g.g.w g.g.h
