-- A client on its way through its script.
-- Events stand with the latest first: `e ∷ t` is t, and then e.
use Rattle.std.specs.Prelude.{◌≡◌, ◌⊎◌, ℕ, suc, ◌+◌, ◌<◌, ◌≤◌, Bool, true, false, List, [], ◌∷◌, map, length}
use Rattle.std.specs.List.{AllByRecursion}
use Rattle.sv_world.specs.Limits.{most_sessions, most_steps}
use Rattle.sv_world.specs.Worlds.{IsGoodShape}
use Rattle.sv_world.specs.declared.world.ObjectId.{ObjectId}
use Rattle.sv_watch.specs.Told.{change_line}
use Rattle.sv_wire.specs.declared.message.Request.{Request}
use Rattle.sv_wire.specs.declared.message.Request.TheVariants as requests
use Rattle.sv_client.specs.declared.trace.Event.{Event}
use Rattle.sv_client.specs.Traces.{joins, makes}
use Rattle.sv_client.specs.Taking.{Identity, outstanding}
use Rattle.sv_client.specs.Proper.{IsGoodIdentity, AreProper, in_session}
use Rattle.sv_client.specs.Seen.{latest_session, newly_asked}
use Rattle.sv_scenario.specs.declared.scenario.Plan.{Plan}
use Rattle.sv_scenario.specs.declared.scenario.Step.{Step}
use Rattle.sv_scenario.specs.Limits.{IsGoodStep, IsGoodPlan}
use Rattle.sv_scenario.specs.Sessions.{cuts_in}
use Rattle.sv_script.specs.Following.{FollowsTo, unsynced, must_join, is_welcomed, is_finished}
use Rattle.sv_script.specs.Next.{can_go_on}
use Rattle.sv_script.specs.Telling.{changes_of}
use Rattle.sv_player.specs.declared.playing.Player.{Player}
use Rattle.sv_player.specs.declared.telling.Seen.{Seen}
use Rattle.sv_player.specs.Seen.{seen_by}
use Rattle.sv_player.specs.Awaiting.{GetsAreAwaited}

abbrev pub scripted_plan : Identity → List Step → Plan
scripted_plan who script = record { interest = who.interest; steps = script }

-- a client that may play a script
pub record MayPlay (who : Identity) (script : List Step) : Type 0 where
  pub identity : IsGoodIdentity who
  pub shape : IsGoodShape who.shape
  pub plan : IsGoodPlan who.shape (scripted_plan who script)

-- the objects whose changes are told: those of the client's interest where somebody watches, and else none
abbrev pub told_objects : Bool → Identity → List ObjectId
told_objects true who = who.interest
told_objects false who = []

-- the lines tell the changes that the events made, to whoever watches
abbrev pub AreTold : Bool → Identity → List Event → List (List ℕ) → Type 0
AreTold watched who t lines = lines ≡ map change_line (changes_of who.client (told_objects watched who) t)

-- these are its views of the objects whose changes are told
abbrev pub AreSeen : Bool → Identity → List Event → List Seen → Type 0
AreSeen watched who t seen = seen ≡ seen_by t (told_objects watched who)

abbrev pub one_more_if : Bool → ℕ
one_more_if true = 0
one_more_if false = 1

-- The steps that are left are good ones, few enough to be made, and cut as many sessions as may still begin.
pub record IsBudget (who : Identity) (script : List Step) (t : List Event) (left : List Step) : Type 0 where
  pub good : AllByRecursion (IsGoodStep who.shape) left
  pub few : makes t + length left ≤ most_steps
  pub sessions : joins t + cuts_in left ≤ cuts_in script + one_more_if (must_join t)

-- What the player did is proper, follows the script so far, with these steps left, waited only where it could not go on, and was told; and its
-- views are those that it saw last.
pub record IsGoing (p : Player) : Type 0 where
  pub may : MayPlay p.client.who p.script.now
  pub first : p.first < most_sessions
  pub proper : AreProper p.client.who 0 p.client.events
  pub follows : FollowsTo p.client.who p.script.now p.client.events p.left.now
  pub awaited : GetsAreAwaited p.client.who p.script.now p.client.events
  pub budget : IsBudget p.client.who p.script.now p.client.events p.left.now
  pub told : AreTold p.watched p.client.who p.client.events p.lines.items
  pub seen : AreSeen p.watched p.client.who p.client.events p.seen.items
  pub count : p.count ≡ length p.client.events

-- The player did nothing yet.
pub record IsNew (p : Player) : Type 0 where
  pub may : MayPlay p.client.who p.script.now
  pub first : p.first < most_sessions
  pub none : p.client.events ≡ []
  pub left : p.left.now ≡ p.script.now
  pub lines : p.lines.items ≡ []
  pub seen : p.seen.items ≡ []
  pub count : p.count ≡ 0

-- The player did an event, told it, and has these steps left.
pub record Did (e : Event) (left : List Step) (old new : Player) : Type 0 where
  pub who : new.client.who ≡ old.client.who
  pub events : new.client.events ≡ e ∷ old.client.events
  pub script : new.script.now ≡ old.script.now
  pub first : new.first ≡ old.first
  pub watched : new.watched ≡ old.watched
  pub left_is : new.left.now ≡ left
  pub told : AreTold old.watched old.client.who old.client.events old.lines.items → AreTold old.watched old.client.who (e ∷ old.client.events) new.lines.items
  pub seen : AreSeen old.watched old.client.who old.client.events old.seen.items → AreSeen old.watched old.client.who (e ∷ old.client.events) new.seen.items
  pub count : new.count ≡ suc old.count

-- Memory ended before the event, or after it.
pub record DidInPart (e : Event) (old new : Player) : Type 0 where
  pub who : new.client.who ≡ old.client.who
  pub script : new.script.now ≡ old.script.now
  pub first : new.first ≡ old.first
  pub watched : new.watched ≡ old.watched
  pub events : (new.client.events ≡ old.client.events) ⊎ (new.client.events ≡ e ∷ old.client.events)

-- ---- A player in a session

-- A player that joined, and has not ended its session. Once it left, it waits for the Bye alone, with no step left.
pub record IsHere (who : Identity) (t : List Event) (left : List Step) : Type 0 where
  pub joined : must_join t ≡ false
  pub here : is_finished t ≡ false
  pub within : (in_session t ≡ true) ⊎ ((outstanding who t ≡ requests.Leave ∷ []) × (left ≡ []))

-- It has the Welcome besides.
pub record IsReady (who : Identity) (t : List Event) (left : List Step) : Type 0 where
  pub here_is : IsHere who t left
  pub welcomed : is_welcomed t ≡ true

-- ---- What holds of a player now

-- its session, from 0
abbrev pub own_session : Player → ℕ
own_session p = latest_session p.client.events

-- the number of its session
abbrev pub own_number : Player → ℕ
own_number p = own_session p + p.first

abbrev pub outstanding_of : Player → List Request
outstanding_of p = outstanding p.client.who p.client.events

-- what it asks by an event
abbrev pub asked_by : Player → Event → List Request
asked_by p e = newly_asked p.client.who p.client.events e

-- the steps that are left, without the syncs that may be passed now
abbrev pub next_steps : Player → List Step
next_steps p = unsynced p.client.who p.client.events p.left.now

abbrev pub can_go_on_now : Player → Bool
can_go_on_now p = can_go_on p.client.who p.client.events p.left.now

abbrev pub IsHereNow : Player → Type 0
IsHereNow p = IsHere p.client.who p.client.events p.left.now

abbrev pub IsReadyNow : Player → Type 0
IsReadyNow p = IsReady p.client.who p.client.events p.left.now
