-- The loop invariant and the measure of `Pilot::settle`.
use Rattle.sv_client.specs.Taking.{outstanding}
use Rattle.sv_pilot.specs.Lines.{IsCalm}
use Rattle.sv_pilot.specs.Doings.{HasTaken, HeardAll, weight}
use Rattle.sv_pilot.proofs.pilot.Pilot.settle.Given as goal

abbrev pub invariant-loop-self : goal.invariant-loop-self
invariant-loop-self g l = record {
  taken : HasTaken l.fn.self l.self l.self.line.waits;
  calm : IsCalm l.fn.self.line l.self.line;
  told : HeardAll l.fn.self.client.who l.fn.self.client.events l.fn.self.told l.self;
}

abbrev pub decreases-loop-self : goal.decreases-loop-self
decreases-loop-self g l = weight (outstanding l.self.client.who l.self.client.events)
