-- Which messages are within the grammar.
use Rattle.std.specs.Prelude.{◌≡◌, ℕ, ◌^◌, ◌<◌, ◌≤◌, true, ℤ, List, length, map, All}
use Rattle.sv_world.specs.Faults.{is_ascending}
use Rattle.sv_world.specs.Limits.{most_attrs, most_reads, most_nodes, most_depth, most_interest, most_items}
use Rattle.sv_world.specs.Sets.{read_set}
use Rattle.sv_world.specs.Trees.{body_nodes, body_depth}
use Rattle.sv_world.specs.declared.action.Action.{Action}
use Rattle.sv_world.specs.declared.world.ObjectId.{ObjectId}
use Rattle.sv_wire.specs.Fields.{most_held, most_seen}
use Rattle.sv_wire.specs.Refusals.{last_code}
use Rattle.sv_wire.specs.declared.message.ObjectValue.{ObjectValue}
use Rattle.sv_wire.specs.declared.message.Done1.{Done1}
use Rattle.sv_wire.specs.declared.message.Item.{Item}
use Rattle.sv_wire.specs.declared.message.Request.{Request}
use Rattle.sv_wire.specs.declared.message.Request.TheVariants.{Join, Submit, Done, Poll, Observe, Leave, Bad, End}
use Rattle.sv_wire.specs.declared.message.Reply.{Reply}
use Rattle.sv_wire.specs.declared.message.Reply.TheVariants.{Welcome, Relay, Dropped, Denied, Seen, Settled, Noted, Idle, Refused, Bye}

abbrev pub IsWireValue : List ℤ → Type 0
IsWireValue v = (1 ≤ length v) × (length v ≤ most_attrs)

pub record IsWireHeadUpTo (most : ℕ) (head : List ObjectValue) : Type 0 where
  pub few : length head ≤ most
  pub ascending : is_ascending (map (λ (h : ObjectValue). h.object.0) head) ≡ true
  pub values : All (λ (h : ObjectValue). IsWireValue h.value) head

abbrev pub IsWireHead : List ObjectValue → Type 0
IsWireHead head = IsWireHeadUpTo most_held head

pub record IsWireResult (r : Done1) : Type 0 where
  pub few : length r.values ≤ most_reads
  pub values : All IsWireValue r.values

pub record IsWireAction (a : Action) : Type 0 where
  pub some_reads : 1 ≤ length a.reads
  pub few_reads : length a.reads ≤ most_reads
  pub ascending : is_ascending (read_set a) ≡ true
  pub mask : a.mask < 2 ^ length a.reads
  pub few_nodes : body_nodes a.body ≤ most_nodes
  pub shallow : body_depth a.body ≤ most_depth

pub record IsWireInterest (interest : List ObjectId) : Type 0 where
  pub few : length interest ≤ most_interest
  pub ascending : is_ascending (map (λ (o : ObjectId). o.0) interest) ≡ true

pub record IsWireDone (results : List Done1) : Type 0 where
  pub some : 1 ≤ length results
  pub few : length results ≤ most_items
  pub each : All IsWireResult results

pub record IsWireObserved (objects : List ObjectId) : Type 0 where
  pub some : 1 ≤ length objects
  pub few : length objects ≤ most_reads
  pub ascending : is_ascending (map (λ (o : ObjectId). o.0) objects) ≡ true

-- A head of at most so many objects, and the actions that are evaluated on it.
pub record IsWireWork (most : ℕ) (head : List ObjectValue) (items : List Item) : Type 0 where
  pub base : IsWireHeadUpTo most head
  pub few : length items ≤ most_items
  pub each : All (λ (i : Item). IsWireAction i.action) items

-- Bad and End are not messages.
abbrev pub IsWireRequest : Request → Type 0
IsWireRequest (Join client life interest) = IsWireInterest interest
IsWireRequest (Submit seq action) = IsWireAction action
IsWireRequest (Done results) = IsWireDone results
IsWireRequest Poll = Unit {0}
IsWireRequest (Observe objects wait) = IsWireObserved objects
IsWireRequest Leave = Unit {0}
IsWireRequest Bad = ⊥
IsWireRequest End = ⊥

abbrev pub IsWireReply : Reply → Type 0
IsWireReply (Welcome commit head) = IsWireHead head
IsWireReply (Relay seq commit head items) = IsWireWork most_held head items
IsWireReply (Dropped seq chain far) = Unit {0}
IsWireReply (Denied seq object) = Unit {0}
IsWireReply (Seen last commit head items) = IsWireWork most_seen head items
IsWireReply (Settled seq pos) = Unit {0}
IsWireReply (Noted commit) = Unit {0}
IsWireReply Idle = Unit {0}
IsWireReply (Refused code detail) = (1 ≤ code) × (code ≤ last_code)
IsWireReply Bye = Unit {0}
