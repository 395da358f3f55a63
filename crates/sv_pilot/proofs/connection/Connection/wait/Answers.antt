-- What is proved by hand of `Connection::wait`.
use Rattle.std.proofs.Common.{refl}
use Rattle.sv_pilot.specs.Sending.{IsReceived}
use Rattle.sv_pilot.proofs.Taking.{nothing_read, calm_same, read_more, calm_more}
use Rattle.sv_pilot.proofs.Moved.{received_by, receive_later, failed_by}
use Rattle.sv_pilot.proofs.connection.Connection.wait.Goals as goal

pub loop-reply-init : goal.loop-reply-init
loop-reply-init g c = record { read = nothing_read c.args.self.now; calm = calm_same c.args.self.now c.args.self.now refl }

pub returns-in-Some-clause-received : goal.returns-in-Some-clause-received
returns-in-Some-clause-received g c = received_by c.args.self.now c.loop-reply.self c.in-Some.reply c.loop-reply.invariant.calm c.in-Some.ensures

pub returns-in_err-read-clause-read : goal.returns-in_err-read-clause-read
returns-in_err-read-clause-read g c = read_more c.args.self.now c.loop-reply.self c.read.new.self c.read.new.self.waits c.loop-reply.invariant.read c.read.ensures.read

pub returns-in_err-read-clause-received : goal.returns-in_err-read-clause-received
returns-in_err-read-clause-received g c =
    failed_by c.from_residual.result c.in_err-read.field-0.0 c.from_residual.ensures.1 (IsReceived c.args.self.now c.read.new.self)
    (receive_later c.args.self.now c.loop-reply.self c.read.new.self c.in_err-read.field-0.0 c.loop-reply.invariant.calm c.in_err-read.ensures.answer)

pub loop-reply-preserved : goal.loop-reply-preserved
loop-reply-preserved g c = record {
  read = read_more c.args.self.now c.loop-reply.self c.read.new.self c.read.new.self.waits c.loop-reply.invariant.read c.read.ensures.read;
  calm = calm_more c.args.self.now c.loop-reply.self c.read.new.self c.loop-reply.invariant.calm c.in_ok-read.ensures.answer.0;
}
