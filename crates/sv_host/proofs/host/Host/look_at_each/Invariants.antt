-- The connections so far were looked at.
use Rattle.sv_office.specs.Offices.{session_of}
use Rattle.sv_host.specs.Joining.{LetsNobodyIn}
use Rattle.sv_host.specs.Rooms.{AreServed, Continues, KeepsWritten}
use Rattle.sv_host.proofs.host.Host.look_at_each.Given as goal

abbrev pub invariant-loop-number : goal.invariant-loop-number
invariant-loop-number g l = record {
  served : AreServed l.self.office.keeper.world (session_of l.self.office.steward) l.self.room.guests;
  written : KeepsWritten l.fn.self.office.keeper.world l.fn.self.room.guests l.self.office.keeper.world l.self.room.guests;
  goes : Continues l.fn.self.office.keeper.world l.self.office.keeper.world;
  nobody : LetsNobodyIn l.fn.self.office.keys l.self.office.keys l.fn.self.office.keeper.world l.self.office.keeper.world;
}
