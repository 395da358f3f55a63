-- A client that does a trace again, and tells its snapshots.
-- Events stand with the latest first.
use Rattle.std.specs.Prelude.{List, [], ◌∷◌, ◌++◌, option_to_list}
use Rattle.sv_client.specs.declared.trace.Event.{Event}
use Rattle.sv_client.specs.declared.trace.Event.TheVariants as events
use Rattle.sv_client.specs.Traces.{held_of}
use Rattle.sv_client.specs.Taking.{Identity, items_of, observed_now, told}
use Rattle.sv_client.specs.Evaluating.{IsCutAbove, ItemsAreAbove, ItemsReadWithin}
use Rattle.sv_looks.specs.declared.snapshot.Snapshot.{Snapshot}
use Rattle.sv_looks.specs.Snapshots.{snapshot_by}

-- The event that was done last, after which the events t are done, names objects of the world, and items above what was told; and what was seen is
-- not below it.
abbrev pub IsReadable : Identity → List Event → Event → Type 0
IsReadable who t (events.Got s reply) =
    ItemsReadWithin who.shape.objects (items_of reply) × ItemsAreAbove (told t) (items_of reply) × IsCutAbove (told t) reply
IsReadable who t _ = Unit {0}

-- The snapshots that events tell, in order, that come after the events t.
abbrev pub snapshots_after : Identity → List Event → List Event → List Snapshot
snapshots_after who t [] = []
snapshots_after who t (e ∷ es) = option_to_list (snapshot_by who.client (held_of (e ∷ t)) (observed_now who t) e) ++ snapshots_after who (e ∷ t) es
