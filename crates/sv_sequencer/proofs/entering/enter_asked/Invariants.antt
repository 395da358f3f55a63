-- The ghost arguments of `enter_asked`.
use Rattle.sv_sequencer.proofs.entering.enter_asked.Given as goal

abbrev pub ghost-carry_out : goal.ghost-carry_out
ghost-carry_out g a = g.h
