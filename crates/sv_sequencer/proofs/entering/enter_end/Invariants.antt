-- The ghost arguments of `enter_end`.
use Rattle.sv_sequencer.proofs.entering.enter_end.Given as goal

abbrev pub ghost-end : goal.ghost-end
ghost-end g a = g.h
