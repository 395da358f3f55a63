-- The ghost arguments of `Sequencer::end`.
use Rattle.sv_sequencer.proofs.sequencer.Sequencer.end.Given as goal

abbrev pub ghost-enter_end : goal.ghost-enter_end
ghost-enter_end g a = g.h
