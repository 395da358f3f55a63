-- Some turns were made.
use Rattle.std.proofs.Common.{◌≡◌}
use Rattle.sv_ports.specs.Traffic.{nothing_told}
use Rattle.sv_office.specs.Offices.{session_of}
use Rattle.sv_host.specs.Joining.{LetsIn}
use Rattle.sv_host.specs.Inputs.{IsReadTo}
use Rattle.sv_host.specs.Rooms.{AreServed, AreWritten, Continues}
use Rattle.sv_host.proofs.host.Host.serve.Given as goal

abbrev pub invariant-loop : goal.invariant-loop
invariant-loop g l = record {
  can_next : (goal.iterator-loop g).can_next l.iterator';
  is_finite : (goal.iterator-loop g).is_finite l.iterator';
  served : AreServed l.self.office.keeper.world (session_of l.self.office.steward) l.self.room.guests;
  written : AreWritten l.fn.self.office.keeper.world (g.P.Ports.told l.fn.outside.ports.now) l.fn.self.room.guests
      → AreWritten l.self.office.keeper.world (g.P.Ports.told l.outside.ports.now) l.self.room.guests;
  goes : Continues l.fn.self.office.keeper.world l.self.office.keeper.world;
  joins : LetsIn (g.L.Files.contents l.fn.outside.files.now) (g.L.Files.contents l.outside.files.now) l.fn.self.office.keys l.self.office.keys l.fn.self.office.keeper.world
      l.self.office.keeper.world;
  input : g.P.Ports.told l.fn.outside.ports.now ≡ nothing_told → IsReadTo (g.P.Ports.told l.outside.ports.now) l.input;
  lent : l.outside.ports.ghost_name ≡ l.fn.outside.ports.ghost_name;
}
