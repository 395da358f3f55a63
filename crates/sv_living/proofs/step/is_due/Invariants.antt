-- The same history.
use Rattle.sv_living.proofs.step.is_due.Given as goal

abbrev pub ghost-is_stewards : goal.ghost-is_stewards
ghost-is_stewards g a = g.g.h
