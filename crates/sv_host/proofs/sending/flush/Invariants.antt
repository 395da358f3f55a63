-- What was sent so far.
use Rattle.sv_host.specs.Rooms.{Sends, WasSent}
use Rattle.sv_host.proofs.sending.flush.Given as goal

abbrev pub invariant-loop : goal.invariant-loop
invariant-loop g l = record {
  guest : WasSent l.fn.guest l.guest;
  bytes : Sends l.number l.fn.guest.peer l.guest.peer (g.P.Ports.told l.fn.ports) (g.P.Ports.told l.ports);
}
