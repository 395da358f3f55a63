-- The ghost arguments of `Core::decide_observe`.
use Rattle.sv_core.proofs.server_core.Core.decide_observe.Given as goal

abbrev pub ghost-shape : goal.ghost-shape
ghost-shape g a = g.h
