-- The ghost arguments of `Core::decide`.
use Rattle.sv_core.proofs.server_core.Core.decide.Given as goal

abbrev pub ghost-is_over : goal.ghost-is_over
ghost-is_over g a = g.h

abbrev pub ghost-has_more : goal.ghost-has_more
ghost-has_more g a = g.h

abbrev pub ghost-decide_open : goal.ghost-decide_open
ghost-decide_open g a = g.h
