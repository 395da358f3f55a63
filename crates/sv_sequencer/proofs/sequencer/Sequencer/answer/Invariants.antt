-- The ghost arguments of `Sequencer::answer`.
use Rattle.sv_sequencer.proofs.sequencer.Sequencer.answer.Given as goal

abbrev pub ghost-decide : goal.ghost-decide
ghost-decide g a = g.h

abbrev pub ghost-enter_reply : goal.ghost-enter_reply
ghost-enter_reply g a = g.h
