-- Which traces an honest client can have, whatever sessions others begin between its own.
-- Events stand here with the latest first: `e ∷ t` is t, and then e.
use Rattle.std.specs.Prelude.{◌≡◌, ℕ, ◌<◌, ◌≤◌, true, List, [], ◌∷◌, map, length, reverse, slice_index_or, All}
use Rattle.sv_world.specs.declared.world.Shape.{Shape}
use Rattle.sv_world.specs.Faults.{is_ascending}
use Rattle.sv_client.specs.declared.trace.Event.{Event}
use Rattle.sv_client.specs.declared.trace.Event.TheVariants as events
use Rattle.sv_client.specs.declared.trace.Trace.{Trace}
use Rattle.sv_client.specs.Traces.{joins}
use Rattle.sv_client.specs.Taking.{Identity}
use Rattle.sv_client.specs.Proper.{IsGoodInterest, MayCome, AreInTurn, identity_of}
use Rattle.sv_client.specs.Seen.{ClientView}

-- The numbers of the sessions that were begun, the latest first.
abbrev pub sessions_begun : List Event → List ℕ
sessions_begun [] = []
sessions_begun (events.Join s ∷ t) = s ∷ sessions_begun t
sessions_begun (_ ∷ t) = sessions_begun t

-- An event may come after the events t: a Join names a session above each that was begun before, and any other event is one that the client may
-- do there. How many sessions are begun, and how many actions are made, has no limit here.
abbrev pub MayComeNext : Identity → List Event → Event → Type 0
MayComeNext who t (events.Join s) = All (λ n. n < s) (sessions_begun t)
MayComeNext who t e = MayCome who 0 t e

abbrev pub AreClientEvents : Identity → List Event → Type 0
AreClientEvents who [] = Unit {0}
AreClientEvents who (e ∷ t) = MayComeNext who t e × AreClientEvents who t

-- A trace that an honest client can have in a world of the shape. Its number is one that a message has room for.
pub record IsClientTrace (shape : Shape) (trace : Trace) : Type 0 where
  pub client : trace.client.0 < 65536
  pub interest : IsGoodInterest (identity_of shape trace)
  pub events : AreClientEvents (identity_of shape trace) (reverse trace.events)

-- ---- A client that counts its own sessions

-- An event of a client that counts its sessions from 0 on, where a server numbers them so, in that order.
abbrev pub in_sessions : List ℕ → Event → Event
in_sessions numbers (events.Join s) = events.Join (slice_index_or numbers s 0)
in_sessions numbers (events.Got s reply) = events.Got (slice_index_or numbers s 0) reply
in_sessions numbers e = e

-- The client's trace, with the server's numbers.
abbrev pub trace_in : List ℕ → ClientView → Trace
trace_in numbers c = record {
  client = c.who.client;
  interest = c.who.interest;
  first = slice_index_or numbers 0 0;
  events = reverse (map (in_sessions numbers) c.events);
}

-- The client did everything in turn, and the server's numbers ascend, one for each session.
pub record IsNumberedIn (numbers : List ℕ) (c : ClientView) : Type 0 where
  pub client : c.who.client.0 < 65536
  pub interest : IsGoodInterest c.who
  pub turn : AreInTurn c.who 0 c.events
  pub ascending : is_ascending numbers ≡ true
  pub enough : joins c.events ≤ length numbers
