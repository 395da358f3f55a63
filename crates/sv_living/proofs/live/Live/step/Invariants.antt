-- The same history, by the core's own stewardship.
use Rattle.sv_living.specs.Keeping.{stewardship_at}
use Rattle.sv_living.proofs.live.Live.step.Given as goal

abbrev pub ghost-step_open : goal.ghost-step_open
ghost-step_open g a = record { w = stewardship_at a.self.now; h = g.h }

abbrev pub ghost-step_first : goal.ghost-step_first
ghost-step_first g a = record { w = stewardship_at a.self.now; h = g.h }
