-- The ghost arguments of `Core::decide_open`.
use Rattle.sv_core.proofs.server_core.Core.decide_open.Given as goal

abbrev pub ghost-decide_join : goal.ghost-decide_join
ghost-decide_join g a = g.h

abbrev pub ghost-decide_member : goal.ghost-decide_member
ghost-decide_member g a = g.h
