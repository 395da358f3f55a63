-- What a client did, as the events of its trace.
use Rattle.std.specs.Prelude.{List, [], ◌∷◌}
use Rattle.sv_client.specs.declared.deed.Deed.{Deed}
use Rattle.sv_client.specs.declared.deed.Deed.TheVariants as deeds
use Rattle.sv_client.specs.declared.trace.Event.{Event}
use Rattle.sv_client.specs.declared.trace.Event.TheVariants as events
use Rattle.sv_client.specs.Traces.{joins}
use Rattle.sv_client.specs.Seen.{latest_session, event_of_mark}

-- The event of a deed that is done after the events t.
abbrev pub event_after : List Event → Deed → Event
event_after t deeds.Joined = events.Join (joins t)
event_after t (deeds.Made action) = events.Make action.value
event_after t deeds.Polled = events.Poll
event_after t (deeds.Observed objects wait) = events.Observe objects.value wait
event_after t deeds.Left = events.Leave
event_after t (deeds.Got reply) = events.Got (latest_session t) reply.value
event_after t (deeds.Noted mark) = event_of_mark mark.value

-- The events of deeds that are given in order, and are done after the events t.
abbrev pub events_after : List Event → List (Deed × Unit {0}) → List Event
events_after t [] = t
events_after t (d ∷ ds) = events_after (event_after t d.0 ∷ t) ds
