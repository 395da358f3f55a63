-- The ghost arguments of `Core::decide_accepted`.
use Rattle.sv_core.proofs.server_core.Core.decide_accepted.Given as goal

abbrev pub ghost-is_committed : goal.ghost-is_committed
ghost-is_committed g a = g.h
