-- The results that count.
use Rattle.sv_journal.specs.Living.{heeded}
use Rattle.sv_living.proofs.live.Live.quiet_answer.Given as goal

abbrev pub ghost-quiet_answer : goal.ghost-quiet_answer
ghost-quiet_answer g a = heeded g.g.w g.g.h
