-- The same history.
use Rattle.sv_living.proofs.due.due_decision.Given as goal

abbrev pub ghost-first_unreported : goal.ghost-first_unreported
ghost-first_unreported g a = g.h
