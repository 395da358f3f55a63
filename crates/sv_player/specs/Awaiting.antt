-- Where a client waits for a reply: only where its next step can't be done yet.
-- Events stand with the latest first: `e ∷ t` is t, and then e.
use Rattle.std.specs.Prelude.{◌≡◌, false, List, [], ◌∷◌, reverse}
use Rattle.sv_world.specs.declared.world.Shape.{Shape}
use Rattle.sv_client.specs.declared.trace.Event.{Event}
use Rattle.sv_client.specs.declared.trace.Event.TheVariants as events
use Rattle.sv_client.specs.declared.trace.Trace.{Trace}
use Rattle.sv_client.specs.Taking.{Identity}
use Rattle.sv_client.specs.Proper.{identity_of}
use Rattle.sv_scenario.specs.declared.scenario.Step.{Step}
use Rattle.sv_script.specs.Following.{FollowsTo}
use Rattle.sv_script.specs.Next.{can_go_on}

-- an event is no reply, or one that came where the client could not go on
abbrev pub IsAwaited : Identity → List Event → List Step → Event → Type 0
IsAwaited who t left (events.Got s reply) = can_go_on who t left ≡ false
IsAwaited who t left _ = Unit {0}

-- The event is such a one, with the steps that are left before it.
pub record ComesInTime (who : Identity) (script : List Step) (t : List Event) (e : Event) : Type 0 where
  pub left : List Step
  pub follows : FollowsTo who script t left
  pub awaited : IsAwaited who t left e

-- Each reply was got where the client could not go on: its Welcome was due, or its next step was a sync, an action that none more may be
-- pending for, or one that asks where no more may be outstanding; or its script was at its end.
abbrev pub GetsAreAwaited : Identity → List Step → List Event → Type 0
GetsAreAwaited who script [] = Unit {0}
GetsAreAwaited who script (e ∷ t) = ComesInTime who script t e × GetsAreAwaited who script t

-- The same of a trace.
abbrev pub WaitsWhereNeeded : Shape → List Step → Trace → Type 0
WaitsWhereNeeded shape script trace = GetsAreAwaited (identity_of shape trace) script (reverse trace.events)
