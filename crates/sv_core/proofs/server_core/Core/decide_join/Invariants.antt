-- The ghost arguments of `Core::decide_join`.
use Rattle.sv_core.proofs.server_core.Core.decide_join.Given as goal

abbrev pub ghost-is_live : goal.ghost-is_live
ghost-is_live g a = g.h

abbrev pub ghost-life_of : goal.ghost-life_of
ghost-life_of g a = g.h

abbrev pub ghost-shape : goal.ghost-shape
ghost-shape g a = g.h
