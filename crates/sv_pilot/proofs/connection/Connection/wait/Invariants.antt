-- The loop invariant and the measure of `Connection::wait`.
use Rattle.std.proofs.Common.{length, ◌-◌}
use Rattle.sv_pilot.specs.Lines.{IsCalm}
use Rattle.sv_pilot.specs.Sending.{HasRead}
use Rattle.sv_pilot.proofs.connection.Connection.wait.Given as goal

abbrev pub invariant-loop-reply : goal.invariant-loop-reply
invariant-loop-reply g l = record {
  read : HasRead l.fn.self l.self l.self.waits;
  calm : IsCalm l.fn.self l.self;
}

abbrev pub decreases-loop-reply : goal.decreases-loop-reply
decreases-loop-reply g l = 65540 - length l.self.came
