-- What is proved by hand of `Connection::receive`.
use Rattle.std.proofs.Common.{◌≡◌, refl}
use Rattle.sv_pilot.specs.Sending.{Reads, IsReceived}
use Rattle.sv_pilot.proofs.Taking.{sent_read, read_more, all_sent}
use Rattle.sv_pilot.proofs.Moved.{received_later, sending_stops, failed_by}
use Rattle.sv_pilot.proofs.Replied.{always}
use Rattle.sv_pilot.proofs.connection.Connection.receive.Goals as goal

pub returns-in_err-flush-clause-read : goal.returns-in_err-flush-clause-read
returns-in_err-flush-clause-read g c =
    let sent = c.in_err-flush.ensures.sent in
    failed_by c.from_residual.result c.in_err-flush.field-0.0 c.from_residual.ensures.1 (Reads c.args.self.now c.flush.new.self)
    (sent.0, sent_read c.args.self.now c.flush.new.self sent.0 sent.1, tt)

pub returns-in_err-flush-clause-received : goal.returns-in_err-flush-clause-received
returns-in_err-flush-clause-received g c =
    failed_by c.from_residual.result c.in_err-flush.field-0.0 c.from_residual.ensures.1 (IsReceived c.args.self.now c.flush.new.self)
    (sending_stops c.args.self.now c.flush.new.self c.in_err-flush.field-0.0 c.in_err-flush.ensures.answer)

pub returns-clause-read : goal.returns-clause-read
returns-clause-read g c =
    let new = c.wait.new.self in
    let sent = sent_read c.args.self.now c.flush.new.self c.flush.new.self.waits (all_sent c.args.self.now c.flush.new.self tt c.in_ok-flush.ensures.sent) in
    (new.waits, read_more c.args.self.now c.flush.new.self new new.waits sent c.wait.ensures.read, always (new.waits ≡ new.waits) c.wait.result refl)

pub returns-clause-received : goal.returns-clause-received
returns-clause-received g c = received_later c.args.self.now c.flush.new.self c.wait.new.self c.wait.result c.in_ok-flush.ensures.answer c.wait.ensures.received
