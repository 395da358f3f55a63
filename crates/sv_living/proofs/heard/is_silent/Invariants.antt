-- The same history.
use Rattle.sv_living.proofs.heard.is_silent.Given as goal

abbrev pub ghost-counts : goal.ghost-counts
ghost-counts g a = g.g.h
