-- One session of a player, from its Join to what ends it. The client's own sessions are numbered from 0 here.
-- Events stand with the latest first: `e ∷ t` is t, and then e.
use Rattle.std.specs.Prelude.{◌≡◌, ◌≢◌, ℕ, ◌+◌, ◌<◌, ◌≤◌, Bool, true, false, List, [], ◌∷◌, length, Option, Some, None, Result, Ok, Err, All}
use Rattle.sv_bytes.specs.Faults.{Rose}
use Rattle.sv_link.specs.Ends.{Told}
use Rattle.sv_link.specs.declared.ends.Sent.{Sent}
use Rattle.sv_link.specs.declared.ends.Sent.TheVariants as answers
use Rattle.sv_wire.specs.declared.message.Reply.{Reply}
use Rattle.sv_wire.specs.declared.message.Reply.TheVariants as replies
use Rattle.sv_wire.specs.Messages.{reply_at}
use Rattle.sv_wire.specs.Grammar.{IsWireReply}
use Rattle.sv_wire.specs.Laws.{IsRequest}
use Rattle.sv_client.specs.declared.trace.Event.{Event}
use Rattle.sv_client.specs.declared.trace.Event.TheVariants as events
use Rattle.sv_client.specs.Traces.{current_session, joins, asked, got}
use Rattle.sv_client.specs.Taking.{Identity}
use Rattle.sv_client.specs.Proper.{AreProper}
use Rattle.sv_scenario.specs.declared.scenario.Step.{Step}
use Rattle.sv_script.specs.Following.{FollowsTo, is_finished}
use Rattle.sv_script.specs.Laws.{is_got}
use Rattle.sv_client.specs.Seen.{newly_asked}
use Rattle.sv_exchange.specs.Outgoing.{KeepsBack}
use Rattle.sv_player.specs.Stops.{IsBad, IsBadRest, IsShut, first_payload, is_cut}
use Rattle.sv_player.specs.declared.buffers.Buffers.{Buffers}
use Rattle.sv_player.specs.declared.outcome.PlayerCause.{PlayerCause}
use Rattle.sv_player.specs.declared.outcome.PlayerCause.TheVariants as causes
use Rattle.sv_player.specs.declared.playing.Player.{Player}
use Rattle.sv_player.specs.declared.outcome.SessionEnd.{SessionEnd}
use Rattle.sv_player.specs.declared.outcome.SessionEnd.TheVariants as endings
use Rattle.sv_player.specs.Carried.{request_frames, which_end, BeginsWithReplies, Posted, PostedPart, IsLinked, IsLinkedInPart}
use Rattle.sv_player.specs.Awaiting.{GetsAreAwaited}
use Rattle.sv_player.specs.Going.{AreTold, IsGoing, IsHere, IsReady, own_session}

-- The player is in session s, over this end.
pub record IsAt (s : ℕ) (p : Player) (b : Buffers) (end : Told) : Type 0 where
  pub going : IsGoing p
  pub current : current_session p.client.events ≡ Some s
  pub open_is : is_cut p.client.events s ≡ false
  pub linked : IsLinked p.client.who p.client.events s end b.inbox b.outbox

-- It is in the session that it began last.
abbrev pub IsInSession : Player → Buffers → Told → Type 0
IsInSession p b end = IsAt (own_session p) p b end

-- What happened to the player happened in session s: nothing was asked, got or cut in any other.
pub record Onward (s : ℕ) (old new : Player) : Type 0 where
  pub who : new.client.who ≡ old.client.who
  pub script : new.script.now ≡ old.script.now
  pub first : new.first ≡ old.first
  pub watched : new.watched ≡ old.watched
  pub asks : (n : ℕ) → n ≢ s → asked old.client.who.client old.client.who.interest new.client.events n ≡ asked old.client.who.client old.client.who.interest old.client.events n
  pub gets : (n : ℕ) → n ≢ s → got new.client.events n ≡ got old.client.events n
  pub cuts : (n : ℕ) → n ≢ s → is_cut new.client.events n ≡ is_cut old.client.events n

-- ---- How a session ends

abbrev pub HasEnded : SessionEnd → List Event → ℕ → Type 0
HasEnded endings.Cut t s = (u : List Event) × (t ≡ events.Cut ∷ u)
HasEnded endings.Quit t s = (u : List Event) × (t ≡ events.Quit ∷ u)
HasEnded endings.Left t s = (u : List Event) × (t ≡ events.Got s replies.Bye ∷ u)

-- The player ended session s: it sent all that it asked, and received the replies that were got.
pub record Ended (s : ℕ) (old new : Player) (end : Told) (ending : SessionEnd) : Type 0 where
  pub going : IsGoing new
  pub onward : Onward s old new
  pub current : current_session new.client.events ≡ Some s
  pub how : HasEnded ending new.client.events s
  pub sent : end.sent ≡ request_frames (asked new.client.who.client new.client.who.interest new.client.events s)
  pub messages : All IsRequest (asked new.client.who.client new.client.who.interest new.client.events s)
  pub rest : List ℕ
  pub received : BeginsWithReplies end.received (got new.client.events s) rest

-- ---- Why a player stops

-- the first frame has a payload that is read as this reply
pub record IsFirst (rest : List ℕ) (reply : Reply) : Type 0 where
  pub payload : List ℕ
  pub first : first_payload rest ≡ Some payload
  pub read : reply_at payload ≡ Ok reply
  pub wire : IsWireReply reply

-- the player can't take the first frame of the rest for this cause, which names its session, or there was no memory
abbrev pub IsFrameFault : Identity → List Event → ℕ → List ℕ → PlayerCause → Type 0
IsFrameFault who t session rest causes.Memory = Unit {0}
IsFrameFault who t session rest (causes.BadReply named payload fault) = (named ≡ session) × IsBadRest who t rest payload.items fault
IsFrameFault who t session rest _ = ⊥

-- what shows the cause, for a player in session s, whose first session has the number `first`
abbrev pub IsReason : Identity → List Event → ℕ → ℕ → Told → PlayerCause → Type 0
IsReason who t first s end causes.Finished = ⊥
IsReason who t first s end causes.Quit = ⊥
IsReason who t first s end causes.LinkFault = Unit {0}
IsReason who t first s end causes.Closed = IsShut who t s end
IsReason who t first s end (causes.BadReply session payload fault) = (session ≡ s + first) × IsBad who t s end payload.items fault
IsReason who t first s end causes.Memory = Unit {0}

-- Something stopped the player in session s. Nothing was received in a session that was not begun.
pub record Stopped (s : ℕ) (old new : Player) (end : Told) (cause : PlayerCause) : Type 0 where
  pub onward : Onward s old new
  pub proper : AreProper new.client.who 0 new.client.events
  pub left : List Step
  pub follows : FollowsTo new.client.who new.script.now new.client.events left
  pub awaited : GetsAreAwaited new.client.who new.script.now new.client.events
  pub current : cause ≢ causes.Memory → current_session new.client.events ≡ Some s
  pub open_is : is_cut new.client.events s ≡ false
  pub part : IsLinkedInPart new.client.who new.client.events s end
  pub whole : cause ≢ causes.LinkFault → cause ≢ causes.Memory → end.sent ≡ request_frames (asked new.client.who.client new.client.who.interest new.client.events s)
  pub messages : cause ≢ causes.LinkFault → cause ≢ causes.Memory → All IsRequest (asked new.client.who.client new.client.who.interest new.client.events s)
  pub told : cause ≢ causes.Memory → AreTold new.watched new.client.who new.client.events new.lines.items
  pub going_on : cause ≢ causes.Memory → is_finished new.client.events ≡ false
  pub idle : joins new.client.events ≤ s → end.received ≡ []
  pub reason : IsReason new.client.who new.client.events new.first s end cause

-- The player did this event in session s, and goes on.
pub record SessionGoesOn (s : ℕ) (e : Event) (old new : Player) (b : Buffers) (end : Told) : Type 0 where
  pub at : IsAt s new b end
  pub onward : Onward s old new
  pub events : new.client.events ≡ e ∷ old.client.events

-- Nothing more happened to the player in session s; or something stopped it.
abbrev pub IsStill : Result Unit PlayerCause → ℕ → Player → Buffers → Told → Type 0
IsStill (Ok _) s p b end = IsAt s p b end
IsStill (Err cause) s p b end = Stopped s p p end cause

-- what an event of a player answers
abbrev pub IsTurn : Result Unit PlayerCause → ℕ → Event → Player → Player → Buffers → Told → Type 0
IsTurn (Ok _) s e old new b end = SessionGoesOn s e old new b end
IsTurn (Err cause) s e old new b end = Stopped s old new end cause

-- The player got a reply in session s, and goes on, or it was the Bye.
pub record Got (s : ℕ) (bye : Bool) (old new : Player) (b : Buffers) (end : Told) : Type 0 where
  pub reply : Reply
  pub turn : SessionGoesOn s (events.Got s reply) old new b end
  pub left : new.left.now ≡ old.left.now
  pub bye_is : bye ≡ is_finished new.client.events
  pub whole : bye ≡ true → b.outbox ≡ []
  pub here : bye ≡ false → IsHere new.client.who new.client.events new.left.now

abbrev pub IsReceived : Result Bool PlayerCause → ℕ → Player → Player → Buffers → Told → Type 0
IsReceived (Ok bye) s old new b end = Got s bye old new b end
IsReceived (Err cause) s old new b end = Stopped s old new end cause

-- what a move of a player answers: it goes on, with more events; or it ended the session; or something stopped it
abbrev pub IsMoved : Result (Option SessionEnd) PlayerCause → ℕ → Player → Player → Buffers → Told → Type 0
IsMoved (Ok None) s old new b end = IsAt s new b end × Onward s old new × IsReady new.client.who new.client.events new.left.now × (length old.client.events < length new.client.events)
IsMoved (Ok (Some ending)) s old new b end = Ended s old new end ending
IsMoved (Err cause) s old new b end = Stopped s old new end cause

-- A move that goes on by an event that is no reply sends nothing where what the event asks fits behind what waits.
abbrev pub IsKeptBack : Result (Option SessionEnd) PlayerCause → Player → Player → List ℕ → Told → Told → Type 0
IsKeptBack (Ok None) old new waiting before now = (e : Event) → is_got e ≡ false → new.client.events ≡ e ∷ old.client.events →
    KeepsBack waiting (length (request_frames (newly_asked old.client.who old.client.events e))) before now
IsKeptBack _ old new waiting before now = Unit {0}

-- what a session answers
abbrev pub IsSessionPlayed : Result SessionEnd PlayerCause → ℕ → Player → Player → Told → Type 0
IsSessionPlayed (Ok ending) s old new end = Ended s old new end ending
IsSessionPlayed (Err cause) s old new end = Stopped s old new end cause

-- It is the same end of the same pair.
pub record IsSameEnd (old new : Told) : Type 0 where
  pub pair : new.pair ≡ old.pair
  pub side : new.side ≡ old.side

-- an end that nothing was sent or received over
pub record IsFresh (end : Told) : Type 0 where
  pub open_is : end.closed ≡ false
  pub sent : end.sent ≡ []
  pub received : end.received ≡ []

-- the end's count of faults rises just where it stopped the player
abbrev pub FaultCause : {A : Type 0} → ℕ → ℕ → Result A PlayerCause → Type 0
FaultCause before now (Ok _) = now ≡ before
FaultCause before now (Err causes.LinkFault) = Rose before now
FaultCause before now (Err _) = now ≡ before

-- It is the same end, whose count of faults rises just where it stopped the player, and which stays calm.
module _ {E : Type 0} (told : E → Told) (faults : E → ℕ) (calm : E → Type 0) where
  pub record KeepsEnd {A : Type 0} (old new : E) (result : Result A PlayerCause) : Type 0 where
    pub same : which_end (told new) ≡ which_end (told old)
    pub cause : FaultCause (faults old) (faults new) result
    pub calm_is : calm old → calm new

-- bytes were put behind what waited; or sending ended early
abbrev pub IsAnswered : Result Unit PlayerCause → Told → List ℕ → List ℕ → Told → List ℕ → Type 0
IsAnswered (Ok _) old waiting more new left = Posted old waiting more new left
IsAnswered (Err causes.LinkFault) old waiting more new left = PostedPart old waiting more new
IsAnswered (Err causes.Memory) old waiting more new left = PostedPart old waiting more new
IsAnswered (Err _) old waiting more new left = ⊥

-- what an answer of a try to send is for a player
abbrev pub IsSent : Sent → Result Unit PlayerCause → Type 0
IsSent answers.Whole result = result ≡ Ok tt
IsSent answers.Failed result = result ≡ Err causes.LinkFault
IsSent answers.Memory result = result ≡ Err causes.Memory
