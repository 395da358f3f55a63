-- The connection is as it was, and what came was heard of it alone.
use Rattle.std.proofs.Common.{◌≡◌}
use Rattle.sv_office.specs.Guests.{OnlyHeard}
use Rattle.sv_office.proofs.hearing.drain.Given as goal

abbrev pub invariant-loop : goal.invariant-loop
invariant-loop g l = record {
  same : l.guest ≡ l.fn.guest;
  told : OnlyHeard l.fn.number (g.P.Ports.told l.fn.ports) (g.P.Ports.told l.ports);
}
