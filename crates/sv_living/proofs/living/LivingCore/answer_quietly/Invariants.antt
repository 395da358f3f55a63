-- The same history, by the reports that count.
use Rattle.sv_living.specs.Keeping.{stewardship_at}
use Rattle.sv_living.proofs.living.LivingCore.answer_quietly.Given as goal

abbrev pub ghost-quiet_answer : goal.ghost-quiet_answer
ghost-quiet_answer g a = record { w = stewardship_at a.self.now; h = g.h }
