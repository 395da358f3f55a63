-- The ghost arguments of `Core::accept_new`.
use Rattle.sv_core.proofs.server_core.Core.accept_new.Given as goal

abbrev pub ghost-accept : goal.ghost-accept
ghost-accept g a = g.h
