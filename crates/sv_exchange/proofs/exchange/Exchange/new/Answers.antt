-- What is proved by hand of `Exchange::new`.
use Rattle.std.proofs.Common.{ap}
use Rattle.sv_link.specs.Sides.{LinkView}
use Rattle.sv_wire.specs.Laws.{IsRequest, IsReply}
use Rattle.sv_wire.specs.Messages.{request_at, reply_at}
use Rattle.sv_wire.specs.Spelling.{request_bytes, reply_bytes}
use Rattle.sv_exchange.proofs.Sizes.{requests_spelled, replies_spelled}
use Rattle.sv_exchange.proofs.Lanes.{lane_new, waits_new}
use Rattle.sv_exchange.proofs.Views.{same_view}
use Rattle.sv_exchange.proofs.exchange.Exchange.new.Goals as goal

pub invariant_of-result : goal.invariant_of-result
invariant_of-result c =
    let link = c.new.result in
    record {
      requests = lane_new IsRequest request_bytes request_at requests_spelled c.in_ok-new.field-0 link.client c.in_ok-new.ensures (ap (λ (l : LinkView). l.client) c.new.ensures);
      replies = lane_new IsReply reply_bytes reply_at replies_spelled c.in_ok-new-2.field-0 link.server c.in_ok-new-2.ensures (ap (λ (l : LinkView). l.server) c.new.ensures);
    }

pub returns : goal.returns
returns c =
    let link = c.new.result in
    same_view _ _ _ _ _ _ _ _
    (waits_new IsRequest request_bytes request_at requests_spelled c.in_ok-new.field-0 link.client c.in_ok-new.ensures (ap (λ (l : LinkView). l.client) c.new.ensures))
    (waits_new IsReply reply_bytes reply_at replies_spelled c.in_ok-new-2.field-0 link.server c.in_ok-new-2.ensures (ap (λ (l : LinkView). l.server) c.new.ensures))
    (ap (λ (l : LinkView). l.client.closed) c.new.ensures)
    (ap (λ (l : LinkView). l.server.closed) c.new.ensures)
