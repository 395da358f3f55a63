-- The loop invariant of `Audience::tell`.
use Rattle.sv_pilot.specs.Calls.{IsTelling}
use Rattle.sv_pilot.proofs.audience.Audience.tell.Given as goal

abbrev pub invariant-loop-at : goal.invariant-loop-at
invariant-loop-at g l = IsTelling l.client.who l.client.events l.fn.self.heard l.self l.at
