-- The loop invariant of `Pilot::watch`.
use Rattle.std.proofs.Common.{◌≡◌}
use Rattle.sv_pilot.specs.Lines.{IsCalm}
use Rattle.sv_pilot.specs.Doings.{HeardAll, Watched}
use Rattle.sv_pilot.proofs.pilot.Pilot.watch.Given as goal

abbrev pub invariant-loop : goal.invariant-loop
invariant-loop g l = record {
  watched : Watched l.objects l.wait l.counter l.fn.self l.self;
  calm : IsCalm l.fn.self.line l.self.line;
  who : l.self.client.who ≡ l.fn.self.client.who;
  told : HeardAll l.fn.self.client.who l.fn.self.client.events l.fn.self.told l.self;
}
