-- The same history.
use Rattle.sv_living.proofs.heard.counts.Given as goal

abbrev pub ghost-is_stewards : goal.ghost-is_stewards
ghost-is_stewards g a = g.h
