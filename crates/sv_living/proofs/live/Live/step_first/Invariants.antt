-- The same history.
use Rattle.sv_living.proofs.live.Live.step_first.Given as goal

abbrev pub ghost-end_first : goal.ghost-end_first
ghost-end_first g a = g.g

abbrev pub ghost-begin : goal.ghost-begin
ghost-begin g a = g.g
