-- What is proved by hand of `Connection::send_all`.
use Rattle.std.proofs.Common.{◌++◌, ◌+◌, drop, refl}
use Rattle.sv_pilot.specs.Lines.{asking, request_frames}
use Rattle.sv_pilot.specs.Sending.{Sends, IsSent}
use Rattle.sv_pilot.proofs.Taking.{calm_same, calm_more, all_sent}
use Rattle.sv_pilot.proofs.Moved.{none_sent, sent_step, sent_until, fault_later, failed_by}
use Rattle.sv_pilot.proofs.connection.Connection.send_all.Goals as goal

pub loop-request-init : goal.loop-request-init
loop-request-init g c = record { sent = none_sent c.args.self.now; calm = calm_same c.args.self.now c.args.self.now refl }

pub returns-in_err-send-clause-sent : goal.returns-in_err-send-clause-sent
returns-in_err-send-clause-sent g c =
    let a = c.args.self.now in
    let b = c.loop-request.self in
    let i = c.loop-request.request-index in
    let rs = c.args.requests.now in
    let sent = c.in_err-send.ensures.sent in
    failed_by c.from_residual.result c.in_err-send.field-0.0 c.from_residual.ensures.1 (Sends (asking a rs) c.send.new.self)
    (sent.0 ++ request_frames (drop (i + 1) rs), sent_until a b c.send.new.self rs i c.request-item.result sent.0 c.loop-request-test.true c.request-item.is c.loop-request.invariant.sent sent.1, tt)

pub returns-in_err-send-clause-answer : goal.returns-in_err-send-clause-answer
returns-in_err-send-clause-answer g c =
    failed_by c.from_residual.result c.in_err-send.field-0.0 c.from_residual.ensures.1 (IsSent c.args.self.now c.send.new.self)
    (fault_later c.args.self.now c.loop-request.self c.send.new.self c.in_err-send.field-0.0 c.loop-request.invariant.calm c.in_err-send.ensures.answer)

pub loop-request-preserved : goal.loop-request-preserved
loop-request-preserved g c =
    let a = c.args.self.now in
    let b = c.loop-request.self in
    let new = c.send.new.self in
    record {
      sent = sent_step a b new c.args.requests.now c.loop-request.request-index c.request-item.result new.waits c.loop-request-test.true c.request-item.is c.loop-request.invariant.sent (all_sent _ new tt c.in_ok-send.ensures.sent);
      calm = calm_more a b new c.loop-request.invariant.calm c.in_ok-send.ensures.answer;
    }
