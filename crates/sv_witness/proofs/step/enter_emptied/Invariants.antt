-- The ghost arguments of `enter_emptied`.
use Rattle.sv_witness.proofs.step.enter_emptied.Given as goal

abbrev pub ghost-enter_reply : goal.ghost-enter_reply
ghost-enter_reply g a = g.h

abbrev pub ghost-enter_asked : goal.ghost-enter_asked
ghost-enter_asked g a = g.h
