-- The ghost arguments of `Core::decide_submit`.
use Rattle.sv_core.proofs.server_core.Core.decide_submit.Given as goal

abbrev pub ghost-kept_outcome : goal.ghost-kept_outcome
ghost-kept_outcome g a = g.h

abbrev pub ghost-decide_accepted : goal.ghost-decide_accepted
ghost-decide_accepted g a = g.h

abbrev pub ghost-decide_new : goal.ghost-decide_new
ghost-decide_new g a = g.h
