-- What a server tells a session, and a client that got all of it; and results that are those of the serial execution.
-- A history is the list of a journal's entries with the latest first; events stand with the latest first too.
use Rattle.std.specs.Prelude.{◌≡◌, ℕ, ◌==◌, ℤ, List, [], ◌∷◌, ◌++◌, All, Option, Some, None, if◌then◌else◌}
use Rattle.sv_world.specs.declared.action.Action.{Action}
use Rattle.sv_wire.specs.declared.message.Done1.{Done1}
use Rattle.sv_wire.specs.declared.message.Request.{Request}
use Rattle.sv_wire.specs.declared.message.Request.TheVariants as requests
use Rattle.sv_journal.specs.declared.entry.Entry.{Entry}
use Rattle.sv_journal.specs.History.{accepted, actions_of, full_reply}
use Rattle.sv_journal.specs.Answer.{Rules}
use Rattle.sv_journal.specs.Serving.{Keeping}
use Rattle.sv_client.specs.declared.trace.Event.{Event}
use Rattle.sv_client.specs.declared.trace.Event.TheVariants as events
use Rattle.law_system.specs.Delivery.{Telling, telling_in}
use Rattle.law_system.specs.Journals.{IsSerialResult, ResultsAreSerial}

-- ---- What was told

-- What an entry told its session: its reply, as it was sent.
abbrev pub telling_by : List Entry → Entry → List Telling
telling_by h e = telling_in (full_reply (accepted (e ∷ h)) e.reply)

-- What a session was told, in order.
abbrev pub told_to : List Entry → ℕ → List Telling
told_to [] s = []
told_to (e ∷ h) s = if e.session == s then told_to h s ++ telling_by h e else told_to h s

-- What was told to the session that one has. One that has none was told nothing.
abbrev pub told_in : List Entry → Option ℕ → List Telling
told_in h None = []
told_in h (Some s) = told_to h s

-- What a client got, in order, in all of its sessions.
abbrev pub all_got : List Event → List Telling
all_got [] = []
all_got (events.Got n reply ∷ t) = all_got t ++ telling_in reply
all_got (_ ∷ t) = all_got t

-- A client got just what its session was told, whatever number it has for that session.
abbrev pub GotWhatWasTold : List Entry → Option ℕ → List Event → Type 0
GotWhatWasTold h session t = all_got t ≡ told_in h session

-- ---- Results

-- Reported results are those of the serial execution.
abbrev pub AreSerialResults : List (List ℤ) → List Action → List Done1 → Type 0
AreSerialResults opening A results = All (IsSerialResult opening A) results

-- What a request reports, if it reports anything, is that of the serial execution.
abbrev pub ReportsSerial : List (List ℤ) → List Action → Request → Type 0
ReportsSerial opening A (requests.Done results) = AreSerialResults opening A results
ReportsSerial opening A _ = Unit {0}

-- A server goes by results of the serial execution alone.
abbrev pub GoesBySerial : Keeping → Rules → List Entry → Type 0
GoesBySerial k r h = ResultsAreSerial r.world.values (actions_of h) (k.kept h)
