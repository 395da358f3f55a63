-- An exchange as contracts see it.
use Rattle.std.specs.Prelude.{◌≡◌, Bool, false, List, [], ◌∷◌, Option, None, Some}
use Rattle.sv_wire.specs.declared.message.Request.{Request}
use Rattle.sv_wire.specs.declared.message.Reply.{Reply}

-- The requests that the client sent and the server has not taken, and the replies that the server sent and the client has not taken, in
-- order; whether the client's side is closed, and whether the server's is, by which a session's loop stops.
pub record ExchangeView : Type 0 where
  pub requests : List Request
  pub replies : List Reply
  pub closed : Bool
  pub stopped : Bool

abbrev pub new_exchange : ExchangeView
new_exchange = record { requests = []; replies = []; closed = false; stopped = false }

-- none waits; or the first that waits is taken off
abbrev pub TakesRequest : ExchangeView → ExchangeView → Option Request → Type 0
TakesRequest old new None = (old.requests ≡ []) × (new ≡ old)
TakesRequest old new (Some request) = old ≡ record new { requests = request ∷ new.requests }

abbrev pub TakesReply : ExchangeView → ExchangeView → Option Reply → Type 0
TakesReply old new None = (old.replies ≡ []) × (new ≡ old)
TakesReply old new (Some reply) = old ≡ record new { replies = reply ∷ new.replies }
