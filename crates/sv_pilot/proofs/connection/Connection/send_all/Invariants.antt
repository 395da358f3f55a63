-- The loop invariant of `Connection::send_all`.
use Rattle.std.proofs.Common.{take}
use Rattle.sv_pilot.specs.Lines.{IsCalm, asking}
use Rattle.sv_pilot.specs.Sending.{HasSent}
use Rattle.sv_pilot.proofs.connection.Connection.send_all.Given as goal

abbrev pub invariant-loop-request : goal.invariant-loop-request
invariant-loop-request g l = record {
  sent : HasSent (asking l.fn.self (take l.request-index l.requests)) l.self l.self.waits;
  calm : IsCalm l.fn.self l.self;
}
