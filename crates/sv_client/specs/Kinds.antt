-- The kinds of the requests that a client sends, and the replies that one of a kind may have.
use Rattle.std.specs.Prelude.{Bool, true, false, List, [], ◌∷◌, Option, Some, None, if◌then◌else◌}
use Rattle.sv_wire.specs.declared.message.Request.{Request}
use Rattle.sv_wire.specs.declared.message.Request.TheVariants as requests
use Rattle.sv_wire.specs.declared.message.Reply.{Reply}
use Rattle.sv_wire.specs.declared.message.Reply.TheVariants as replies
use Rattle.sv_client.specs.declared.kinds.Awaited.{Awaited}
use Rattle.sv_client.specs.declared.kinds.Awaited.TheVariants as kinds

-- The kind of a request that a client sends.
abbrev pub kind_of : Request → Option Awaited
kind_of (requests.Join client life interest) = Some kinds.Join
kind_of (requests.Submit seq action) = Some kinds.Submit
kind_of (requests.Done results) = Some kinds.Done
kind_of requests.Poll = Some kinds.Poll
kind_of (requests.Observe objects wait) = Some (kinds.Observe objects)
kind_of requests.Leave = Some kinds.Leave
kind_of _ = None

-- The replies that a request of a kind may have. Refused is never among them.
abbrev pub allows_kind : Awaited → Reply → Bool
allows_kind kinds.Join (replies.Welcome commit head) = true
allows_kind kinds.Submit (replies.Relay n commit head items) = true
allows_kind kinds.Submit (replies.Dropped n chain far) = true
allows_kind kinds.Submit (replies.Denied n object) = true
allows_kind kinds.Submit (replies.Settled n pos) = true
allows_kind kinds.Done (replies.Noted commit) = true
allows_kind kinds.Poll (replies.Relay n commit head items) = true
allows_kind kinds.Poll replies.Idle = true
allows_kind (kinds.Observe objects) (replies.Seen last commit head items) = true
allows_kind kinds.Leave replies.Bye = true
allows_kind _ _ = false

-- The same, where there may be no such kind.
abbrev pub allows_awaited : Option Awaited → Reply → Bool
allows_awaited None reply = false
allows_awaited (Some kind) reply = allows_kind kind reply

abbrev pub asks_for_done : Reply → Bool
asks_for_done (replies.Relay seq commit head items) = true
asks_for_done (replies.Seen last commit head (item ∷ items)) = true
asks_for_done _ = false

-- The kinds of the requests that a reply makes: a relay is answered by a Done, and so is what was seen, where it has items.
abbrev pub done_kinds : Reply → List Awaited
done_kinds reply = if asks_for_done reply then kinds.Done ∷ [] else []
