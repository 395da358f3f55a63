-- The connections so far were touched.
use Rattle.std.proofs.Common.{◌≡◌}
use Rattle.sv_office.specs.Offices.{session_of}
use Rattle.sv_host.specs.Rooms.{AreServed, KeepsWritten}
use Rattle.sv_host.proofs.host.Host.touch_all.Given as goal

abbrev pub invariant-loop-place : goal.invariant-loop-place
invariant-loop-place g l = record {
  served : AreServed l.self.office.keeper.world (session_of l.self.office.steward) l.self.room.guests;
  written : KeepsWritten l.fn.self.office.keeper.world l.fn.self.room.guests l.self.office.keeper.world l.self.room.guests;
  world : l.self.office.keeper ≡ l.fn.self.office.keeper;
  keys : l.self.office.keys ≡ l.fn.self.office.keys;
}
