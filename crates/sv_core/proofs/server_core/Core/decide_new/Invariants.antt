-- The ghost arguments of `Core::decide_new`.
use Rattle.sv_core.proofs.server_core.Core.decide_new.Given as goal

abbrev pub ghost-next_seq : goal.ghost-next_seq
ghost-next_seq g a = g.h

abbrev pub ghost-shape : goal.ghost-shape
ghost-shape g a = g.h

abbrev pub ghost-decide_good : goal.ghost-decide_good
ghost-decide_good g a = g.h
