-- What an exchange keeps: each way, what was not taken is the frames of the messages that wait.
use Rattle.std.specs.Prelude.{ℕ, List}
use Rattle.sv_wire.specs.Laws.{IsRequest, IsReply}
use Rattle.sv_wire.specs.Messages.{request_at, reply_at}
use Rattle.sv_wire.specs.Spelling.{request_bytes, reply_bytes}
use Rattle.sv_link.specs.Sides.{SideView}
use Rattle.sv_exchange.specs.declared.exchange.Exchange.TheInside.{Inside}
use Rattle.sv_exchange.specs.Carried.{waiting, IsLane}
use Rattle.sv_exchange.specs.View.{ExchangeView}

abbrev pub model_of : Inside → ExchangeView
model_of e =
    record {
      requests = waiting request_at e.server e.link.client;
      replies = waiting reply_at e.client e.link.server;
      closed = e.link.client.closed;
      stopped = e.link.server.closed;
    }

-- requests come to this inbox from this side
abbrev pub CarriesRequests : List ℕ → SideView → Type 0
CarriesRequests = IsLane IsRequest request_bytes request_at

abbrev pub CarriesReplies : List ℕ → SideView → Type 0
CarriesReplies = IsLane IsReply reply_bytes reply_at

pub record IsExchange (e : Inside) : Type 0 where
  pub requests : CarriesRequests e.server e.link.client
  pub replies : CarriesReplies e.client e.link.server
