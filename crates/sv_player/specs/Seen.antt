-- What a client saw of objects, and what it sees now.
use Rattle.std.specs.Prelude.{ℕ, List, [], ◌∷◌, map, if◌then◌else◌}
use Rattle.std.specs.List.{flat_map}
use Rattle.sv_world.specs.declared.world.ObjectId.{ObjectId}
use Rattle.sv_watch.specs.declared.change.Change.{Change}
use Rattle.sv_client.specs.declared.trace.Event.{Event}
use Rattle.sv_client.specs.Traces.{view_of}
use Rattle.sv_client.specs.Seen.{ClientView}
use Rattle.sv_script.specs.Telling.{same_view}
use Rattle.sv_player.specs.declared.telling.Seen.{Seen}

-- what is seen of an object after the events t
abbrev pub seen_of : List Event → ObjectId → Seen
seen_of t object = record { object = object; view = view_of t object.0 }

-- what is seen of objects
abbrev pub seen_by : List Event → List ObjectId → List Seen
seen_by t objects = map (seen_of t) objects

-- what is seen of the same objects after the events t
abbrev pub seen_again : List Event → List Seen → List Seen
seen_again t seen = map (λ (s : Seen). seen_of t s.object) seen

-- the change of an object's view since it was seen, by the event with this number
abbrev pub change_since : ClientView → ℕ → Seen → List Change
change_since c event seen =
    if same_view seen.view (view_of c.events seen.object.0) then []
    else record { client = c.who.client; object = seen.object; event = event; old = seen.view; new = view_of c.events seen.object.0 } ∷ []

-- the changes of views since they were seen, in order
abbrev pub changes_since : ClientView → ℕ → List Seen → List Change
changes_since c event seen = flat_map (change_since c event) seen
