-- The ghost arguments of `Core::decide_good`.
use Rattle.sv_core.proofs.server_core.Core.decide_good.Given as goal

abbrev pub ghost-is_full : goal.ghost-is_full
ghost-is_full g a = g.h

abbrev pub ghost-decide_allowed : goal.ghost-decide_allowed
ghost-decide_allowed g a = g.h
