-- Which values a message's fields have: each number is one of its type.
use Rattle.std.specs.Prelude.{◌^◌, ◌<◌, ◌≡◌, true, ℤ, List, FitsSigned}
use Rattle.std.specs.List.{AllByRecursion}
use Rattle.std.specs.Int.{w32, w64}
use Rattle.sv_world.specs.Ranges.{ObjectFits, body_fits}
use Rattle.sv_world.specs.declared.action.Action.{Action}
use Rattle.sv_wire.specs.declared.message.ObjectValue.{ObjectValue}
use Rattle.sv_wire.specs.declared.message.Done1.{Done1}
use Rattle.sv_wire.specs.declared.message.Item.{Item}
use Rattle.sv_wire.specs.declared.message.Request.{Request}
use Rattle.sv_wire.specs.declared.message.Request.TheVariants.{Join, Submit, Done, Poll, Observe, Leave, Bad, End}
use Rattle.sv_wire.specs.declared.message.Reply.{Reply}
use Rattle.sv_wire.specs.declared.message.Reply.TheVariants.{Welcome, Relay, Dropped, Denied, Seen, Settled, Noted, Idle, Refused, Bye}

abbrev pub ValueFits : List ℤ → Type 0
ValueFits v = AllByRecursion (FitsSigned w64) v

abbrev pub HeldFits : ObjectValue → Type 0
HeldFits h = ObjectFits h.object × ValueFits h.value

abbrev pub ResultFits : Done1 → Type 0
ResultFits r = (r.pos < 2 ^ 32) × AllByRecursion ValueFits r.values

pub record ActionFits (a : Action) : Type 0 where
  pub reads : AllByRecursion ObjectFits a.reads
  pub mask : a.mask < 2 ^ 16
  pub x : FitsSigned w32 a.origin.x
  pub y : FitsSigned w32 a.origin.y
  pub body : body_fits a.body ≡ true

pub record ItemFits (i : Item) : Type 0 where
  pub pos : i.pos < 2 ^ 32
  pub client : i.client.0 < 2 ^ 16
  pub seq : i.seq < 2 ^ 32
  pub action : ActionFits i.action

abbrev pub RequestFits : Request → Type 0
RequestFits (Join client life interest) = (client.0 < 2 ^ 16) × (life < 2 ^ 32) × AllByRecursion ObjectFits interest
RequestFits (Submit seq action) = (seq < 2 ^ 32) × ActionFits action
RequestFits (Done results) = AllByRecursion ResultFits results
RequestFits Poll = Unit {0}
RequestFits (Observe objects wait) = AllByRecursion ObjectFits objects × (wait < 2 ^ 16)
RequestFits Leave = Unit {0}
RequestFits Bad = Unit {0}
RequestFits End = Unit {0}

abbrev pub ReplyFits : Reply → Type 0
ReplyFits (Welcome commit head) = (commit < 2 ^ 32) × AllByRecursion HeldFits head
ReplyFits (Relay seq commit head items) = (seq < 2 ^ 32) × (commit < 2 ^ 32) × AllByRecursion HeldFits head × AllByRecursion ItemFits items
ReplyFits (Dropped seq chain far) = (seq < 2 ^ 32) × (chain < 2 ^ 32) × (far < 2 ^ 32)
ReplyFits (Denied seq object) = (seq < 2 ^ 32) × ObjectFits object
ReplyFits (Seen last commit head items) = (last < 2 ^ 32) × (commit < 2 ^ 32) × AllByRecursion HeldFits head × AllByRecursion ItemFits items
ReplyFits (Settled seq position) = (seq < 2 ^ 32) × (position < 2 ^ 32)
ReplyFits (Noted commit) = commit < 2 ^ 32
ReplyFits Idle = Unit {0}
ReplyFits (Refused code detail) = (code < 2 ^ 8) × (detail < 2 ^ 32)
ReplyFits Bye = Unit {0}
