-- A trace done again by a client, event by event. The client counts its sessions from 0.
-- Events stand with the latest first.
use Rattle.std.specs.Prelude.{◌≡◌, ℕ, ◌+◌, ◌-◌, ◌<◌, ◌≤◌, ◌==◌, List, [], ◌∷◌, ◌++◌, map, drop, length, slice_get, Option, Some, None, if◌then◌else◌, codes}
use Rattle.std.specs.Fmt.{decimal}
use Rattle.sv_world.specs.declared.world.ObjectId.{ObjectId}
use Rattle.sv_world.specs.Sets.{write_set}
use Rattle.sv_world.specs.Limits.{most_sessions}
use Rattle.sv_journal.specs.declared.entry.Entry.{Entry}
use Rattle.sv_journal.specs.Pieces.{bracketed, objects_text}
use Rattle.sv_pending.specs.Pending.{PendingAction, kept_of}
use Rattle.sv_client.specs.declared.trace.Event.{Event}
use Rattle.sv_client.specs.declared.trace.Event.TheVariants as events
use Rattle.sv_client.specs.Traces.{joins, makes, current_session, held_of, pending_of, view_of, got}
use Rattle.sv_client.specs.Taking.{Identity, first_fault_of_reply}
use Rattle.sv_client.specs.Proper.{MayMake, MayPoll, MayObserve, MayLeave, MayFollow}
use Rattle.sv_client.specs.Seen.{raised}
use Rattle.sv_client.specs.Answers.{got_now}
use Rattle.sv_report.specs.Report.{entry_number, event_text, kept_text, shown_text}

-- ---- Events

-- The events, where the first session has another number.
abbrev pub all_raised : ℕ → List Event → List Event
all_raised first t = map (raised first) t

-- A client that did the events t may do an event, whatever the number of its session is.
abbrev pub MayDo : Identity → List Event → Event → Type 0
MayDo who t (events.Join s) = joins t < most_sessions
MayDo who t (events.Make action) = MayMake who t action
MayDo who t events.Poll = MayPoll who t
MayDo who t (events.Observe objects wait) = MayObserve who t objects
MayDo who t events.Leave = MayLeave who t
MayDo who t (events.Got s reply) = first_fault_of_reply who t reply ≡ None
MayDo who t _ = Unit {0}

-- The event that a client then does: it begins its next session, and gets replies in its latest one.
abbrev pub again : List Event → Event → Event
again t (events.Join s) = events.Join (joins t)
again t (events.Got s reply) = got_now t reply
again t e = e

-- Events, in order, may come after the events t.
abbrev pub MayComeAfter : Identity → ℕ → List Event → List Event → Type 0
MayComeAfter who first t [] = Unit {0}
MayComeAfter who first t (e ∷ es) = MayFollow who first t e × MayComeAfter who first (e ∷ t) es

-- ---- Texts

-- The text of an event after the events t, where the entry of the reply that it gets has this number.
abbrev pub text_of : ℕ → List Event → Event → List ℕ
text_of number t (events.Join s) = codes "join s" ++ decimal s
text_of number t (events.Make action) =
    codes "make " ++ decimal (makes t + 1) ++ codes " kept " ++ kept_text (write_set action) (kept_of (held_of t) (pending_of t) action)
text_of number t events.Poll = codes "poll"
text_of number t (events.Observe objects wait) = codes "observe " ++ objects_text objects
text_of number t events.Leave = codes "leave"
text_of number t (events.Got s reply) = codes "got s" ++ decimal s ++ codes " #" ++ decimal number
text_of number t events.Cut = codes "cut"
text_of number t events.Quit = codes "quit"
text_of number t (events.Show objects) = codes "show " ++ bracketed (λ (o : ObjectId). shown_text o.0 (view_of t o.0)) objects

-- What of it the client tells before it does the event: of an action all but what it keeps.
abbrev pub text_before : ℕ → List Event → Event → List ℕ
text_before number t (events.Make action) = codes "make " ++ decimal (makes t + 1) ++ codes " kept "
text_before number t e = text_of number t e

-- What the client keeps of the action that it made last.
abbrev pub last_kept_text : Option PendingAction → List ℕ
last_kept_text None = []
last_kept_text (Some p) = kept_text (write_set p.action) p.kept

-- What of it the client tells after it did the events t, whose latest is that event.
abbrev pub text_after : List Event → Event → List ℕ
text_after t (events.Make action) = last_kept_text (slice_get (pending_of t) (length (pending_of t) - 1))
text_after t e = []

-- The lines of events, in order, that come after the events t.
abbrev pub lines_after : List Entry → List Event → List Event → List ℕ
lines_after entries t [] = []
lines_after entries t (e ∷ es) = (event_text entries t e ++ 10 ∷ []) ++ lines_after entries (e ∷ t) es

-- ---- Entries

-- The place behind the next entry of a session, of entries that stand from a place on; behind them all where there is none.
abbrev pub behind_next : List Entry → ℕ → ℕ → ℕ
behind_next [] s place = place
behind_next (e ∷ es) s place = if e.session == s then place + 1 else behind_next es s (place + 1)

-- The number of the entry of the reply that an event gets, which is the next one of its session from a place on.
abbrev pub number_from : List Entry → ℕ → Event → ℕ
number_from entries place (events.Got s reply) = entry_number (drop place entries) s 0 (place + 1)
number_from entries place _ = 0

-- From where on the next one is after an event: from the first entry on in a new session.
abbrev pub place_after : List Entry → ℕ → Event → ℕ
place_after entries place (events.Join s) = 0
place_after entries place (events.Got s reply) = behind_next (drop place entries) s place
place_after entries place _ = place

-- From the place on stand the entries of the latest session but for those whose replies were got.
pub record IsPlace (entries : List Entry) (t : List Event) (place : ℕ) : Type 0 where
  pub within : place ≤ length entries
  pub numbers : (s r : ℕ) → current_session t ≡ Some s → entry_number entries s (length (got t s) + r) 1 ≡ entry_number (drop place entries) s r (place + 1)
