-- The ghost arguments of `Core::decide_allowed`.
use Rattle.sv_core.proofs.server_core.Core.decide_allowed.Given as goal

abbrev pub ghost-chain_of : goal.ghost-chain_of
ghost-chain_of g a = g.h
