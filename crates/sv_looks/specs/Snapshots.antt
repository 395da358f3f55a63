-- Looks, which write nothing, and the snapshots that clients are told by them, and by what they observe.
-- Events stand with the latest first: `e ∷ t` is t, and then e.
use Rattle.std.specs.Prelude.{ℕ, suc, Bool, ◌==◌, ◌&&◌, List, [], ◌∷◌, ◌++◌, map, length, reverse, Option, Some, None, unwrap_or, option_to_list, if◌then◌else◌}
use Rattle.std.specs.List.{flat_map}
use Rattle.sv_world.specs.declared.action.Action.{Action}
use Rattle.sv_world.specs.declared.action.Point.{Point}
use Rattle.sv_world.specs.declared.world.ClientId.{ClientId}
use Rattle.sv_world.specs.declared.world.ObjectId.{ObjectId}
use Rattle.sv_world.specs.declared.world.Shape.{Shape}
use Rattle.sv_world.specs.Sets.{object_numbered}
use Rattle.sv_versions.specs.Held.{Held, read_below}
use Rattle.sv_wire.specs.declared.message.ObjectValue.{ObjectValue}
use Rattle.sv_wire.specs.declared.message.Item.{Item}
use Rattle.sv_wire.specs.declared.message.Reply.TheVariants as replies
use Rattle.sv_client.specs.declared.trace.Event.{Event}
use Rattle.sv_client.specs.declared.trace.Event.TheVariants as events
use Rattle.sv_client.specs.declared.trace.Trace.{Trace}
use Rattle.sv_client.specs.Traces.{held_of}
use Rattle.sv_client.specs.Taking.{Identity, observed_now}
use Rattle.sv_client.specs.Proper.{identity_of}
use Rattle.sv_looks.specs.declared.snapshot.Snapshot.{Snapshot}

-- ---- Looks

-- An action that may write nothing and has no statements.
abbrev pub is_look : Action → Bool
is_look action = (action.mask == 0) && (length action.body == 0)

-- The look at objects.
abbrev pub look_at : List ObjectId → Point → Action
look_at objects origin = record { reads = objects; mask = 0; origin = origin; body = [] }

-- ---- Snapshots

-- The values of objects below a position, where these values are held.
abbrev pub read_all_below : List Held → ℕ → List ObjectId → List ObjectValue
read_all_below held pos objects = map (λ (o : ObjectId). record { object = o; value = unwrap_or (read_below held o.0 pos) [] }) objects

abbrev pub last_item : List Item → Option Item
last_item [] = None
last_item (item ∷ []) = Some item
last_item (item ∷ next ∷ items) = last_item (next ∷ items)

-- The snapshot of an item that is a look, where these values are held: what its action reads, below its position.
abbrev pub snapshot_at : ClientId → ℕ → List Held → Option Item → Option Snapshot
snapshot_at client seq held None = None
snapshot_at client seq held (Some item) = if is_look item.action
    then Some (record { client = client; seq = Some seq; pos = item.pos; values = read_all_below held item.pos item.action.reads })
    else None

-- The snapshot of observed objects that were seen at a position, where these values are held. It stands just behind that position.
abbrev pub snapshot_seen : ClientId → ℕ → List Held → List ℕ → Snapshot
snapshot_seen client last held xs =
    record { client = client; seq = None; pos = suc last; values = read_all_below held (suc last) (map object_numbered xs) }

-- The snapshot that an event tells, where these values are held after it, and its reply shows these objects: a relay that answers a Submit tells
-- one where its last item, which is the action of that Submit, is a look; and what was seen does. A relay of the sequence number 0 answers a Poll.
abbrev pub snapshot_by : ClientId → List Held → List ℕ → Event → Option Snapshot
snapshot_by client held xs (events.Got s (replies.Relay seq commit head items)) = if seq == 0 then None else snapshot_at client seq held (last_item items)
snapshot_by client held xs (events.Got s (replies.Seen last commit head items)) = Some (snapshot_seen client last held xs)
snapshot_by client held xs _ = None

-- The snapshots that a client is told by events, in their order.
abbrev pub snapshots_in : Identity → List Event → List Snapshot
snapshots_in who [] = []
snapshots_in who (e ∷ t) = snapshots_in who t ++ option_to_list (snapshot_by who.client (held_of (e ∷ t)) (observed_now who t) e)

abbrev pub snapshots_of_trace : Shape → Trace → List Snapshot
snapshots_of_trace shape L = snapshots_in (identity_of shape L) (reverse L.events)

-- The snapshots that traces tell in a world of this shape: client by client, and in the order of each trace.
abbrev pub snapshots_of : Shape → List Trace → List Snapshot
snapshots_of shape Ls = flat_map (snapshots_of_trace shape) Ls
