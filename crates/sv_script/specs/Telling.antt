-- What a trace tells of the objects that its client is interested in: each change of a view, by the event that made it.
-- Events stand with the latest first: `e ∷ t` is t, and then e.
use Rattle.std.specs.Prelude.{ℕ, ℤ, Bool, List, [], ◌∷◌, ◌++◌, map, length, reverse, Option, Some, None, if◌then◌else◌}
use Rattle.std.specs.List.{flat_map}
use Rattle.std.specs.Ordering.{int_eq}
use lib.Pointwise.{pointwise}
use Rattle.sv_world.specs.declared.world.ClientId.{ClientId}
use Rattle.sv_world.specs.declared.world.ObjectId.{ObjectId}
use Rattle.sv_watch.specs.declared.change.Change.{Change}
use Rattle.sv_watch.specs.Told.{change_line}
use Rattle.sv_client.specs.declared.trace.Event.{Event}
use Rattle.sv_client.specs.declared.trace.Trace.{Trace}
use Rattle.sv_client.specs.Traces.{view_of}

abbrev pub same_view : Option (List ℤ) → Option (List ℤ) → Bool
same_view None None = Bool.true
same_view (Some v) (Some w) = pointwise int_eq v w
same_view _ _ = Bool.false

-- An object's view before and after an event that comes after the events t. Events are numbered from 1.
abbrev pub change_by : ClientId → List Event → Event → ObjectId → Change
change_by client t e object = record {
  client = client;
  object = object;
  event = length (e ∷ t);
  old = view_of t object.0;
  new = view_of (e ∷ t) object.0;
}

-- The change of one object's view by an event, if there is one.
abbrev pub change_of : ClientId → List Event → Event → ObjectId → List Change
change_of client t e object =
    if same_view (view_of t object.0) (view_of (e ∷ t) object.0) then [] else change_by client t e object ∷ []

-- The changes that the events make, in order; those of one event in the order of the interest.
abbrev pub changes_of : ClientId → List ObjectId → List Event → List Change
changes_of client interest [] = []
changes_of client interest (e ∷ t) = changes_of client interest t ++ flat_map (change_of client t e) interest

-- The lines that tell a trace's changes.
abbrev pub told_lines : Trace → List (List ℕ)
told_lines trace = map change_line (changes_of trace.client trace.interest (reverse trace.events))
