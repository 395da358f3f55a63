-- The ghost arguments of `carry_out`.
use Rattle.sv_sequencer.proofs.entering.carry_out.Given as goal

abbrev pub ghost-carry_out : goal.ghost-carry_out
ghost-carry_out g a = g.h
