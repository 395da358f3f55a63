-- The ghost arguments of `Core::decide_done`.
use Rattle.sv_core.proofs.server_core.Core.decide_done.Given as goal

abbrev pub ghost-is_bad_done : goal.ghost-is_bad_done
ghost-is_bad_done g a = g.h
