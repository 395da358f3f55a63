-- The ghost arguments of `Core::open`.
use Rattle.sv_core.proofs.server_core.Core.open.Given as goal

abbrev pub ghost-take : goal.ghost-take
ghost-take g a = g.h

abbrev pub ghost-take_next : goal.ghost-take_next
ghost-take_next g a = g.h
