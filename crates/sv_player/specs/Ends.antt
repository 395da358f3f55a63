-- What a player's ends carried, session by session. The client's own sessions are numbered from 0 here, and the end of session n is the one at
-- place n. Events stand with the latest first.
use Rattle.std.specs.Prelude.{◌≡◌, ◌≢◌, ◌⊎◌, ℕ, ◌<◌, ◌≤◌, true, false, List, [], length, Option, Some, None, slice_get, All}
use mathlib.Core.List.{IsPrefix}
use Rattle.sv_bytes.specs.Faults.{Rose}
use Rattle.sv_link.specs.Ends.{Told}
use Rattle.sv_wire.specs.Laws.{IsRequest}
use Rattle.sv_client.specs.declared.trace.Event.{Event}
use Rattle.sv_client.specs.Traces.{joins, current_session, asked, got}
use Rattle.sv_client.specs.Taking.{Identity}
use Rattle.sv_client.specs.Proper.{AreProper}
use Rattle.sv_scenario.specs.declared.scenario.Step.{Step}
use Rattle.sv_script.specs.Following.{FollowsTo, is_finished, must_join}
use Rattle.sv_player.specs.declared.outcome.SessionEnd.TheVariants as endings
use Rattle.sv_player.specs.declared.outcome.PlayerCause.{PlayerCause}
use Rattle.sv_player.specs.declared.outcome.PlayerCause.TheVariants as causes
use Rattle.sv_player.specs.declared.playing.Player.{Player}
use Rattle.sv_player.specs.Carried.{request_frames, BeginsWithReplies}
use Rattle.sv_player.specs.Awaiting.{GetsAreAwaited}
use Rattle.sv_player.specs.Going.{AreTold, IsGoing}
use Rattle.sv_player.specs.Stops.{is_cut}
use Rattle.sv_player.specs.Sessions.{IsSameEnd, IsReason, Ended, Stopped}
use Rattle.sv_player.specs.Played.{SentAll, has_quit, has_left}

-- ---- One end

-- It sent what was asked in session n, or a front part of it, and all of it in messages where W holds; and it received the replies that were got.
pub record IsCarried (W : Type 0) (who : Identity) (t : List Event) (n : ℕ) (old new : Told) : Type 0 where
  pub same : IsSameEnd old new
  pub sent : IsPrefix new.sent (request_frames (asked who.client who.interest t n))
  pub whole : W → new.sent ≡ request_frames (asked who.client who.interest t n)
  pub messages : W → All IsRequest (asked who.client who.interest t n)
  pub rest : List ℕ
  pub received : BeginsWithReplies new.received (got t n) rest
  pub idle : asked who.client who.interest t n ≡ [] → new.received ≡ []

-- the session that was begun last, where the events neither cut nor quit in it
pub record IsUncut (t : List Event) (n : ℕ) : Type 0 where
  pub current : current_session t ≡ Some n
  pub open_is : is_cut t n ≡ false

-- what a session answers, once its end is closed where it was cut: nothing, and the next session is due; or why the player stopped
abbrev pub IsPlayedNext : Option PlayerCause → ℕ → Player → Player → Told → Type 0
IsPlayedNext None s old new end = Ended s old new end endings.Cut × (end.closed ≡ true)
IsPlayedNext (Some causes.Finished) s old new end = Ended s old new end endings.Left
IsPlayedNext (Some causes.Quit) s old new end = Ended s old new end endings.Quit
IsPlayedNext (Some cause) s old new end = Stopped s old new end cause

-- the end's count of faults rises just where it stopped the player
abbrev pub NextCause : ℕ → ℕ → Option PlayerCause → Type 0
NextCause before now (Some causes.LinkFault) = Rose before now
NextCause before now _ = now ≡ before

-- ---- All ends

-- What holds of the elements at each place, before and after.
pub record AreKept {E : Type 0} (R : ℕ → E → E → Type 0) (old new : List E) : Type 0 where
  pub count : length new ≡ length old
  pub each : (n : ℕ) (a b : E) → slice_get old n ≡ Some a → slice_get new n ≡ Some b → R n a b

module _ {E : Type 0} (told : E → Told) (faults : E → ℕ) (calm : E → Type 0) where
  -- an end that was closed, and nothing else
  pub record IsClosedEnd (a b : E) : Type 0 where
    pub told_is : told b ≡ record (told a) { closed = true }
    pub faults_are : faults b ≡ faults a
    pub calm_is : calm a → calm b

  -- the ends below a place were closed, and the others are as they were
  pub record IsClosing (place n : ℕ) (a b : E) : Type 0 where
    pub below : n < place → IsClosedEnd a b
    pub ahead : place ≤ n → b ≡ a

  -- The sessions so far are over. The ends of later ones are as they were.
  pub record IsSoFar (who : Identity) (t : List Event) (n : ℕ) (a b : E) : Type 0 where
    pub carried : IsCarried (Unit {0}) who t n (told a) (told b)
    pub ahead : joins t ≤ n → b ≡ a
    pub faults_are : faults b ≡ faults a
    pub calm_is : calm a → calm b

  -- Its sessions so far were cut, and a further one is due.
  pub record IsPlaying (old new : Player) (before now : List E) (place : ℕ) : Type 0 where
    pub going : IsGoing new
    pub needed : must_join new.client.events ≡ true
    pub joined : joins new.client.events ≡ place
    pub who : new.client.who ≡ old.client.who
    pub script : new.script.now ≡ old.script.now
    pub first : new.first ≡ old.first
    pub watched : new.watched ≡ old.watched
    pub ends : AreKept (IsSoFar new.client.who new.client.events) before now

  -- What the end of session n is when the player stops.
  pub record IsLeft (who : Identity) (t : List Event) (cause : PlayerCause) (n : ℕ) (a b : E) : Type 0 where
    pub carried : IsCarried (SentAll cause) who t n (told a) (told b)
    pub faults_are : (faults b ≡ faults a) ⊎ ((cause ≡ causes.LinkFault) × IsUncut t n)
    pub calm_is : calm a → calm b

  -- Something stopped the player in the session that is open, and shows at its end.
  pub record IsStuck (who : Identity) (t : List Event) (first : ℕ) (cause : PlayerCause) (old new : List E) : Type 0 where
    pub place : ℕ
    pub before : E
    pub after : E
    pub was : slice_get old place ≡ Some before
    pub is : slice_get new place ≡ Some after
    pub session : IsUncut t place
    pub going_on : is_finished t ≡ false
    pub rose : NextCause (faults before) (faults after) (Some cause)
    pub reason : IsReason who t first place (told after) cause

  -- why it stopped
  abbrev pub IsWhy : Identity → List Event → ℕ → PlayerCause → List E → List E → Type 0
  IsWhy who t first causes.Finished old new = has_left t ≡ true
  IsWhy who t first causes.Quit old new = has_quit t ≡ true
  IsWhy who t first causes.Memory old new = Unit {0}
  IsWhy who t first cause old new = IsStuck who t first cause old new

  -- What a player did when it stops.
  pub record HasPlayed (old new : Player) (before now : List E) (cause : PlayerCause) : Type 0 where
    pub who : new.client.who ≡ old.client.who
    pub proper : AreProper new.client.who 0 new.client.events
    pub left : List Step
    pub follows : FollowsTo new.client.who old.script.now new.client.events left
    pub awaited : GetsAreAwaited new.client.who old.script.now new.client.events
    pub lines : cause ≢ causes.Memory → AreTold old.watched new.client.who new.client.events new.lines.items
    pub ends : AreKept (IsLeft new.client.who new.client.events cause) before now
    pub why : IsWhy new.client.who new.client.events old.first cause before now
