-- What a pilot did, as the events of its client and its connection tell it.
-- Events stand with the latest first: `e ∷ t` is t, and then e.
use Rattle.std.specs.Prelude.{◌≡◌, ℕ, zero, suc, ℤ, ◌<◌, ◌⊎◌, pos, List, [], ◌∷◌, ◌++◌, map, length, Option, Some, None, unwrap_or, Result, Ok, Err, OnOk}
use Rattle.std.specs.List.{slice_get}
use Rattle.sv_world.specs.declared.action.Action.{Action}
use Rattle.sv_world.specs.declared.world.ObjectId.{ObjectId}
use Rattle.sv_text.specs.Grammar.{IsActionText}
use Rattle.sv_text.specs.Tokens.{tokens_of}
use Rattle.sv_bytes.specs.Faults.{Rose}
use Rattle.sv_frame.specs.Frames.{frames_of}
use Rattle.sv_world.specs.Worlds.{IsGoodShape}
use Rattle.sv_wire.specs.Messages.{reply_at}
use Rattle.sv_wire.specs.declared.message.Reply.{Reply}
use Rattle.sv_wire.specs.declared.message.Request.{Request}
use Rattle.sv_wire.specs.declared.message.Request.TheVariants as requests
use Rattle.sv_exchange.specs.Incoming.{FirstReads}
use Rattle.sv_client.specs.declared.trace.Event.{Event}
use Rattle.sv_client.specs.declared.trace.Event.TheVariants as events
use Rattle.sv_client.specs.Taking.{Identity, Fault, outstanding, first_fault_of_reply}
use Rattle.sv_client.specs.Proper.{IsReadyToMake, MayObserve}
use Rattle.sv_client.specs.Answers.{got_now}
use Rattle.sv_client.specs.Seen.{ClientView, with_event, newly_asked}
use Rattle.sv_pilot.specs.declared.trouble.Trouble.{Trouble}
use Rattle.sv_pilot.specs.declared.trouble.Trouble.TheVariants as troubles
use Rattle.sv_pilot.specs.Hearing.{Heard, HearsEach, HearsUntil}
use Rattle.sv_pilot.specs.Lines.{Line, IsCalm, GoesOn, IsBadFront, HasEnded, request_frames, asking}

-- A pilot: its client, its connection, and what its listener was told.
pub record PilotView : Type 0 where
  pub client : ClientView
  pub line : Line
  pub told : List Heard

-- The events of replies that are got in order after the events t.
abbrev pub got_all : List Event → List Reply → List Event
got_all t [] = t
got_all t (reply ∷ replies) = got_all (got_now t reply ∷ t) replies

-- The requests that a client is to ask when it gets replies after the events t, in order.
abbrev pub asked_by_all : Identity → List Event → List Reply → List Request
asked_by_all who t [] = []
asked_by_all who t (reply ∷ replies) = newly_asked who t (got_now t reply) ++ asked_by_all who (got_now t reply ∷ t) replies

-- It took some replies, and did nothing else. They are what stood in front of what came, in order, and their bytes are taken off. What was sent is what
-- had waited and then the requests that the client was to ask, in order, but for what is unsent at the end.
pub record HasTaken (old new : PilotView) (unsent : List ℕ) : Type 0 where
  pub who : new.client.who ≡ old.client.who
  pub replies : List Reply
  pub events : new.client.events ≡ got_all old.client.events replies
  pub sent : List ℕ
  pub received : List ℕ
  pub line : GoesOn old.line new.line sent received
  pub in_order : sent ++ unsent ≡ old.line.waits ++ request_frames (asked_by_all old.client.who old.client.events replies)
  pub payloads : List (List ℕ)
  pub stream : old.line.came ++ received ≡ frames_of payloads ++ new.line.came
  pub read : map reply_at payloads ≡ map (λ (r : Reply). Ok r) replies

-- What is unsent still waits, where the call went well.
abbrev pub Takes : {X : Type 0} → PilotView → PilotView → Result X Trouble → Type 0
Takes old new result = (unsent : List ℕ) × HasTaken old new unsent × OnOk result (unsent ≡ new.line.waits)

-- The same client, where some requests more wait to be sent.
abbrev pub posting : PilotView → List Request → PilotView
posting p requests = record p { line = asking p.line requests }

-- With one event more of its client, where the requests that it asks wait to be sent.
abbrev pub doing : PilotView → Event → PilotView
doing p e = record p { client = with_event p.client e; line = asking p.line (newly_asked p.client.who p.client.events e) }

-- It did one thing, then took some replies, and did nothing else. What was sent is what had waited and then the requests that the client was to ask,
-- in order, but for what is unsent at the end.
abbrev pub Did : Event → PilotView → PilotView → List ℕ → Type 0
Did e old new unsent = HasTaken (doing old e) new unsent

-- The client did some more after the events t, and after each of its events the listener was told all news.
pub record HeardAll (who : Identity) (t : List Event) (before : List Heard) (new : PilotView) : Type 0 where
  pub more : List Event
  pub events : new.client.events ≡ more ++ t
  pub heard : HearsEach who t more before new.told

-- The same, where it need not be all after the last event.
pub record HeardPart (who : Identity) (t : List Event) (before : List Heard) (new : PilotView) : Type 0 where
  pub more : List Event
  pub events : new.client.events ≡ more ++ t
  pub heard : HearsUntil who t more before new.told

-- One of both: all was told where the call went well.
abbrev pub Hears : {X : Type 0} → Identity → List Event → List Heard → PilotView → Result X Trouble → Type 0
Hears who t before new (Ok x) = HeardAll who t before new
Hears who t before new (Err trouble) = HeardPart who t before new

-- After each event of its client the listener was told all news; where the call failed, it need not be all after the last one.
abbrev pub HasTold : {X : Type 0} → PilotView → PilotView → Result X Trouble → Type 0
HasTold old new result = Hears old.client.who old.client.events old.told new result

-- no reply is due
abbrev pub NoReplyIsDue : PilotView → Type 0
NoReplyIsDue p = outstanding p.client.who p.client.events ≡ []

-- no reply is due, and nothing waits to be sent
pub record IsSettled (p : PilotView) : Type 0 where
  pub due : NoReplyIsDue p
  pub waits : p.line.waits ≡ []

-- The front of what came is a reply that the client does not take.
pub record IsRefused (p : PilotView) : Type 0 where
  pub reply : Reply
  pub fault : Fault
  pub front : FirstReads reply_at p.line.came (Ok reply)
  pub refused : first_fault_of_reply p.client.who p.client.events reply ≡ Some fault

-- Why a call did not come to its end, from what it had done first up to where it stopped: the end failed, or told that no more will come before a whole
-- reply came; the front of what came is no reply, or one that the client does not take, or the client's world is none that there may be; or there was no memory.
abbrev pub StopsBy : PilotView → PilotView → Trouble → Type 0
StopsBy old new troubles.Link = Rose old.line.faults new.line.faults ⊎ HasEnded new.line
StopsBy old new troubles.Reply = IsCalm old.line new.line × (IsBadFront new.line.came ⊎ (IsRefused new ⊎ (IsGoodShape new.client.who.shape → ⊥)))
StopsBy old new troubles.Memory = IsCalm old.line new.line
StopsBy old new troubles.Game = ⊥

-- It did one thing and took some replies, until it stopped. Not all need be sent.
abbrev pub BrokeOff : Event → PilotView → PilotView → Trouble → Type 0
BrokeOff e old new trouble = (unsent : List ℕ) × Did e old new unsent × StopsBy old new trouble

-- Nothing was done for want of memory; or one thing was done and some replies were taken, until it stopped.
abbrev pub Stopped : Event → PilotView → PilotView → Trouble → Type 0
Stopped e old new trouble = ((new ≡ old) × (trouble ≡ troubles.Memory)) ⊎ BrokeOff e old new trouble

-- It observed these objects so often, sent it all, and took some replies after each time.
abbrev pub Watched : List ObjectId → ℕ → ℕ → PilotView → PilotView → Type 0
Watched objects wait zero old new = new ≡ old
Watched objects wait (suc n) old new = (mid : PilotView) × Watched objects wait n old mid × Did (events.Observe objects wait) mid new []

-- It observed these objects fewer times than it should. The next time it might not, and nothing was done; or nothing was done for want of memory; or
-- it was done, and some replies were taken, until it stopped.
pub record StoppedWatch (objects : List ObjectId) (wait times : ℕ) (old new : PilotView) (trouble : Trouble) : Type 0 where
  pub before : ℕ
  pub fewer : before < times
  pub last : PilotView
  pub watched : Watched objects wait before old last
  pub why : ((trouble ≡ troubles.Game) × (new ≡ last) × (MayObserve last.client.who last.client.events objects → ⊥)) ⊎ Stopped (events.Observe objects wait) last new trouble

-- Nothing was done for want of memory; or it made an action, which it might make, and took some replies, until it stopped.
abbrev pub StoppedMake : Action → PilotView → PilotView → Trouble → Type 0
StoppedMake action old new trouble =
    ((new ≡ old) × (trouble ≡ troubles.Memory)) ⊎ (IsReadyToMake old.client.who old.client.events action × BrokeOff (events.Make action) old new trouble)

-- the text of an action has fewer bytes
abbrev pub text_limit : ℕ
text_limit = 1000

-- It made an action of the text, which is short enough, and which it might make, and then took some replies.
pub record MadeAction (text : List ℕ) (old new : PilotView) (unsent : List ℕ) : Type 0 where
  pub short : length text < text_limit
  pub action : Action
  pub is_text : IsActionText action (tokens_of text)
  pub may : IsReadyToMake old.client.who old.client.events action
  pub did : Did (events.Make action) old new unsent

-- Nothing was done for want of memory; or it made an action of the text, which it might make, and took some replies, until it stopped.
abbrev pub StoppedAction : List ℕ → PilotView → PilotView → Trouble → Type 0
StoppedAction text old new trouble = ((new ≡ old) × (trouble ≡ troubles.Memory)) ⊎ ((unsent : List ℕ) × MadeAction text old new unsent × StopsBy old new trouble)

-- How many replies may still come: one to each request, and one to the Done of each that is none.
abbrev pub weight : List Request → ℕ
weight [] = 0
weight (requests.Done results ∷ rs) = suc (weight rs)
weight (r ∷ rs) = suc (suc (weight rs))

-- no action of the text may be made now
abbrev pub NoneMayBeMade : List ℕ → PilotView → Type 0
NoneMayBeMade text p = (action : Action) → IsActionText action (tokens_of text) → IsReadyToMake p.client.who p.client.events action → ⊥

-- a number of a value, and 0 where there is none
abbrev pub number_seen : Option (List ℤ) → ℕ → ℤ
number_seen None attribute = pos 0
number_seen (Some value) attribute = unwrap_or (slice_get value attribute) (pos 0)
