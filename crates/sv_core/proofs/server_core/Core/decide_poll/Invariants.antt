-- The ghost arguments of `Core::decide_poll`.
use Rattle.sv_core.proofs.server_core.Core.decide_poll.Given as goal

abbrev pub ghost-orphan : goal.ghost-orphan
ghost-orphan g a = g.h
