-- What a player has done when it stops.
-- A trace has its events in order; elsewhere they stand with the latest first.
use Rattle.std.specs.Prelude.{◌≡◌, ◌≢◌, ◌⊎◌, ℕ, ◌+◌, ◌≤◌, Bool, true, false, List, [], ◌∷◌, length, reverse, Some, slice_get, All}
use mathlib.Core.List.{IsPrefix}
use Rattle.sv_bytes.specs.Faults.{Rose}
use Rattle.sv_link.specs.Ends.{Told}
use Rattle.sv_world.specs.declared.world.Shape.{Shape}
use Rattle.sv_wire.specs.declared.message.Reply.TheVariants as replies
use Rattle.sv_wire.specs.Laws.{IsRequest}
use Rattle.sv_client.specs.declared.trace.Event.{Event}
use Rattle.sv_client.specs.declared.trace.Event.TheVariants as events
use Rattle.sv_client.specs.declared.trace.Trace.{Trace}
use Rattle.sv_client.specs.Traces.{joins, current_session, requests_of, got}
use Rattle.sv_client.specs.Proper.{Proper, identity_of}
use Rattle.sv_client.specs.Seen.{ClientView}
use Rattle.sv_scenario.specs.declared.scenario.Step.{Step}
use Rattle.sv_script.specs.Following.{Follows, FollowsToEnd}
use Rattle.sv_script.specs.Telling.{told_lines}
use Rattle.sv_player.specs.Stops.{IsBad, IsShut, is_cut}
use Rattle.sv_player.specs.declared.outcome.PlayerCause.{PlayerCause}
use Rattle.sv_player.specs.declared.outcome.PlayerCause.TheVariants as causes
use Rattle.sv_player.specs.Awaiting.{WaitsWhereNeeded}
use Rattle.sv_player.specs.Carried.{request_frames, BeginsWithReplies}

-- the lines that a player tells: those of its trace where somebody watches, and else none
abbrev pub lines_told : Bool → Trace → List (List ℕ)
lines_told true trace = told_lines trace
lines_told false trace = []

abbrev pub replies_of : Trace → ℕ → List Rattle.sv_wire.specs.declared.message.Reply.Reply
replies_of trace s = got (reverse trace.events) s

-- the trace of a client whose first session has this number, which is one that a client can have
pub record IsTraceOf (client : ClientView) (first : ℕ) (trace : Trace) : Type 0 where
  pub client_is : trace.client ≡ client.who.client
  pub interest : trace.interest ≡ client.who.interest
  pub first_is : trace.first ≡ first
  pub proper : Proper client.who.shape trace

-- sending did not end early, and memory did not either
pub record SentAll (cause : PlayerCause) : Type 0 where
  pub link : cause ≢ causes.LinkFault
  pub memory : cause ≢ causes.Memory

-- The end of session s is closed. It sent what was asked in that session, or a front part of it; and it received the replies that were got.
pub record IsDone (trace : Trace) (cause : PlayerCause) (s : ℕ) (old new : Told) : Type 0 where
  pub closed_is : new.closed ≡ true
  pub pair : new.pair ≡ old.pair
  pub side : new.side ≡ old.side
  pub sent : IsPrefix new.sent (request_frames (requests_of trace s))
  pub whole : SentAll cause → new.sent ≡ request_frames (requests_of trace s)
  pub messages : SentAll cause → All IsRequest (requests_of trace s)
  pub rest : List ℕ
  pub received : BeginsWithReplies new.received (replies_of trace s) rest

-- Session s was not begun: nothing was asked or got in it, and nothing sent or received over its end.
pub record IsIdle (trace : Trace) (s : ℕ) (end : Told) : Type 0 where
  pub requests : requests_of trace s ≡ []
  pub replies : replies_of trace s ≡ []
  pub sent : end.sent ≡ []
  pub received : end.received ≡ []

-- the last event is the Quit
abbrev pub has_quit : List Event → Bool
has_quit (events.Quit ∷ t) = true
has_quit _ = false

-- the last event is the Bye that was got
abbrev pub has_left : List Event → Bool
has_left (events.Got s replies.Bye ∷ t) = true
has_left _ = false

-- the session that was begun last, where the trace neither cut nor quit in it
pub record IsOpenSession (trace : Trace) (s : ℕ) : Type 0 where
  pub current : current_session (reverse trace.events) ≡ Some s
  pub open_is : is_cut (reverse trace.events) s ≡ false

module _ {E : Type 0} (told : E → Told) (faults : E → ℕ) (calm : E → Type 0) where
  -- The ends come back in their order. The first of them is that of session s. No count of faults rises but that of the open session's end,
  -- and that one for a link fault alone.
  pub record AreDone (trace : Trace) (cause : PlayerCause) (s : ℕ) (old new : List E) : Type 0 where
    pub count : length new ≡ length old
    pub each : (k : ℕ) (a b : E) → slice_get old k ≡ Some a → slice_get new k ≡ Some b → IsDone trace cause (s + k) (told a) (told b)
    pub idle : (k : ℕ) (b : E) → slice_get new k ≡ Some b → joins (reverse trace.events) ≤ k → IsIdle trace (s + k) (told b)
    pub faults_are : (k : ℕ) (a b : E) → slice_get old k ≡ Some a → slice_get new k ≡ Some b →
        (faults b ≡ faults a) ⊎ ((cause ≡ causes.LinkFault) × IsOpenSession trace (s + k))
    pub calm_is : (k : ℕ) (a b : E) → slice_get old k ≡ Some a → slice_get new k ≡ Some b → calm a → calm b

  -- A fault was counted at the end of the session that is open.
  pub record HasFault (trace : Trace) (s : ℕ) (old new : List E) : Type 0 where
    pub place : ℕ
    pub before : E
    pub after : E
    pub was : slice_get old place ≡ Some before
    pub is : slice_get new place ≡ Some after
    pub rose : Rose (faults before) (faults after)
    pub session : IsOpenSession trace (s + place)

  -- The end of the session that is open.
  pub record HasOpen (P : ℕ → Told → Type 0) (trace : Trace) (s : ℕ) (new : List E) : Type 0 where
    pub place : ℕ
    pub after : E
    pub is : slice_get new place ≡ Some after
    pub session : IsOpenSession trace (s + place)
    pub shows : P (s + place) (told after)

  -- what shows the cause
  abbrev pub IsCause : Shape → Trace → ℕ → List E → List E → PlayerCause → Type 0
  IsCause shape trace s old new causes.Finished = has_left (reverse trace.events) ≡ true
  IsCause shape trace s old new causes.Quit = has_quit (reverse trace.events) ≡ true
  IsCause shape trace s old new causes.LinkFault = HasFault trace s old new
  IsCause shape trace s old new causes.Closed = HasOpen (λ n end. IsShut (identity_of shape trace) (reverse trace.events) n end) trace s new
  IsCause shape trace s old new (causes.BadReply session payload fault) =
      HasOpen (λ n end. (session ≡ n) × IsBad (identity_of shape trace) (reverse trace.events) n end payload.items fault) trace s new
  IsCause shape trace s old new causes.Memory = Unit {0}

-- The causes come exactly so, where memory did not end: Quit after the Quit, Finished after the Bye.
pub record IsExact (trace : Trace) (cause : PlayerCause) : Type 0 where
  pub quit : cause ≢ causes.Memory → has_quit (reverse trace.events) ≡ true → cause ≡ causes.Quit
  pub left : cause ≢ causes.Memory → has_left (reverse trace.events) ≡ true → cause ≡ causes.Finished

-- It follows the script as far as it goes, and to the end where it finished or quit; and it waited only where it could not go on.
pub record HasFollowed (shape : Shape) (script : List Step) (trace : Trace) (cause : PlayerCause) : Type 0 where
  pub follows : Follows shape script trace
  pub finished : cause ≡ causes.Finished → FollowsToEnd shape script trace
  pub quit : cause ≡ causes.Quit → FollowsToEnd shape script trace
  pub awaited : WaitsWhereNeeded shape script trace
