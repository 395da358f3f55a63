-- The same history.
use Rattle.sv_living.proofs.living.LivingCore.answer.Given as goal

abbrev pub ghost-step : goal.ghost-step
ghost-step g a = g.h
