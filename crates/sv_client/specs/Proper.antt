-- Which traces a client can have.
-- Events stand here with the latest first: `e ∷ t` is t, and then e.
use Rattle.std.specs.Prelude.{◌≡◌, ℕ, ◌+◌, ◌<◌, ◌≤◌, Bool, true, false, List, [], ◌∷◌, map, length, reverse, Some, None, All}
use Rattle.sv_world.specs.Limits.{most_clients, most_interest, most_outstanding, most_pending, most_sessions}
use Rattle.sv_world.specs.declared.action.Action.{Action}
use Rattle.sv_world.specs.declared.world.ObjectId.{ObjectId}
use Rattle.sv_world.specs.declared.world.Shape.{Shape}
use Rattle.sv_world.specs.Faults.{first_fault_of_action, is_ascending, may_be_observed}
use Rattle.sv_world.specs.Sets.{numbers_of}
use Rattle.sv_wire.specs.declared.message.Reply.{Reply}
use Rattle.sv_client.specs.declared.trace.Event.{Event}
use Rattle.sv_client.specs.declared.trace.Event.TheVariants as events
use Rattle.sv_client.specs.declared.trace.Trace.{Trace}
use Rattle.sv_client.specs.Traces.{joins, makes, current_session, pending_of}
use Rattle.sv_client.specs.Taking.{Identity, outstanding, first_fault_of_reply}

-- The client is in a session, and did not leave the latest one.
abbrev pub in_session : List Event → Bool
in_session [] = false
in_session (events.Join s ∷ t) = true
in_session (events.Leave ∷ t) = false
in_session (_ ∷ t) = in_session t

-- A client number, and an interest, that a Join may have.
pub record IsGoodIdentity (who : Identity) : Type 0 where
  pub client : who.client.0 < most_clients
  pub few : length who.interest ≤ most_interest
  pub ascending : is_ascending (map (λ (o : ObjectId). o.0) who.interest) ≡ true
  pub objects : All (λ (o : ObjectId). o.0 < who.shape.objects) who.interest

-- An interest that a Join may have.
pub record IsGoodInterest (who : Identity) : Type 0 where
  pub few : length who.interest ≤ most_interest
  pub ascending : is_ascending (map (λ (o : ObjectId). o.0) who.interest) ≡ true
  pub objects : All (λ (o : ObjectId). o.0 < who.shape.objects) who.interest

-- The actions that a client makes.
abbrev pub most_made : ℕ
most_made = 65536

-- The lives, and the sequence numbers, that a message has room for.
abbrev pub most_numbers : ℕ
most_numbers = 4294967295

pub record MayMake (who : Identity) (t : List Event) (action : Action) : Type 0 where
  pub joined : in_session t ≡ true
  pub good : first_fault_of_action who.shape action ≡ None
  pub room : length (pending_of t) < most_pending
  pub calm : length (outstanding who t) < most_outstanding
  pub few : makes t < most_made

-- The same, however many actions were made before.
pub record IsReadyToMake (who : Identity) (t : List Event) (action : Action) : Type 0 where
  pub joined : in_session t ≡ true
  pub good : first_fault_of_action who.shape action ≡ None
  pub room : length (pending_of t) < most_pending
  pub calm : length (outstanding who t) < most_outstanding

pub record MayPoll (who : Identity) (t : List Event) : Type 0 where
  pub joined : in_session t ≡ true
  pub calm : length (outstanding who t) < most_outstanding

pub record MayObserve (who : Identity) (t : List Event) (objects : List ObjectId) : Type 0 where
  pub joined : in_session t ≡ true
  pub good : may_be_observed who.shape.objects (numbers_of objects) ≡ true
  pub calm : length (outstanding who t) < most_outstanding

pub record MayLeave (who : Identity) (t : List Event) : Type 0 where
  pub joined : in_session t ≡ true
  pub settled : outstanding who t ≡ []

-- A reply is got in the session that was begun last, without a fault.
pub record MayGet (who : Identity) (t : List Event) (s : ℕ) (reply : Reply) : Type 0 where
  pub current : current_session t ≡ Some s
  pub taken : first_fault_of_reply who t reply ≡ None

-- The n-th Join names the n-th session from the first one on.
pub record MayJoin (first : ℕ) (t : List Event) (s : ℕ) : Type 0 where
  pub next : s ≡ first + joins t
  pub few : joins t < most_sessions

-- An event may come after the events t. Cut, Quit and Show may always.
abbrev pub MayFollow : Identity → ℕ → List Event → Event → Type 0
MayFollow who first t (events.Join s) = MayJoin first t s
MayFollow who first t (events.Make action) = MayMake who t action
MayFollow who first t events.Poll = MayPoll who t
MayFollow who first t (events.Observe objects wait) = MayObserve who t objects
MayFollow who first t events.Leave = MayLeave who t
MayFollow who first t (events.Got s reply) = MayGet who t s reply
MayFollow who first t _ = Unit {0}

abbrev pub AreProper : Identity → ℕ → List Event → Type 0
AreProper who first [] = Unit {0}
AreProper who first (e ∷ t) = MayFollow who first t e × AreProper who first t

-- An event may come after the events t, however many came before: the numbers of sessions and of actions have no limit here.
abbrev pub MayCome : Identity → ℕ → List Event → Event → Type 0
MayCome who first t (events.Join s) = s ≡ first + joins t
MayCome who first t (events.Make action) = IsReadyToMake who t action
MayCome who first t e = MayFollow who first t e

abbrev pub AreInTurn : Identity → ℕ → List Event → Type 0
AreInTurn who first [] = Unit {0}
AreInTurn who first (e ∷ t) = MayCome who first t e × AreInTurn who first t

abbrev pub identity_of : Shape → Trace → Identity
identity_of shape trace = record { client = trace.client; interest = trace.interest; shape = shape }

-- A trace that a client can have in a world of the shape.
pub record Proper (shape : Shape) (trace : Trace) : Type 0 where
  pub who : IsGoodIdentity (identity_of shape trace)
  pub events : AreProper (identity_of shape trace) trace.first (reverse trace.events)
