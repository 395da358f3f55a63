-- What the steward makes of a reply.
use Rattle.std.specs.Prelude.{◌≡◌, ℕ, Bool, true, false, List, map}
use Rattle.sv_wire.specs.declared.message.Done1.{Done1}
use Rattle.sv_wire.specs.declared.message.Item.{Item}
use Rattle.sv_wire.specs.declared.message.Request.{Request}
use Rattle.sv_wire.specs.declared.message.Request.TheVariants as requests
use Rattle.sv_wire.specs.declared.message.Reply.{Reply}
use Rattle.sv_wire.specs.declared.message.Reply.TheVariants as replies
use Rattle.sv_client.specs.Kinds.{asks_for_done}
use Rattle.sv_client.specs.Taking.{items_of}

-- The positions whose results are reported.
abbrev pub reported_at : List Done1 → List ℕ
reported_at results = map (λ (d : Done1). d.pos) results

-- A request reports a result for each item of a reply, in order.
pub record Reports (reply : Reply) (request : Request) : Type 0 where
  pub some : asks_for_done reply ≡ true
  pub results : List Done1
  pub done : request ≡ requests.Done results
  pub each : reported_at results ≡ map (λ (i : Item). i.pos) (items_of reply)

-- A request was refused.
abbrev pub is_refused : Reply → Bool
is_refused (replies.Refused code detail) = true
is_refused _ = false
