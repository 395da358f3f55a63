-- What is left to do in a run, and whether a turn found some of it.
-- A history is the list of a journal's entries with the latest first.
use Rattle.std.specs.Prelude.{◌≡◌, ℕ, ◌+◌, ◌<◌, Bool, true, false, List, length, drop, Option, Some, None, slice_get, if◌then◌else◌}
use Rattle.sv_journal.specs.declared.entry.Entry.{Entry}
use Rattle.sv_journal.specs.History.{accepted}
use Rattle.sv_journal.specs.Sessions.{is_ended}
use Rattle.sv_client.specs.Traces.{got}
use Rattle.law_system.specs.Fits.{requests_in, replies_in}
use Rattle.law_schedule.specs.Players.{Player, asked_in_run, open_session}
use Rattle.law_schedule.specs.Serving.{Run}

-- A session's waiting requests and its End.
abbrev pub work_left : List Player → ℕ → List Entry → ℕ
work_left ps s h = length (drop (length (requests_in h s)) (asked_in_run ps s)) + (if is_ended h s then 0 else 1)

-- The replies that wait for a player in a session.
abbrev pub work_in : List Entry → Player → Option ℕ → ℕ
work_in h p None = 0
work_in h p (Some s) = length (drop (length (got p.events s)) (replies_in (accepted h) h s))

-- The replies that wait for a player in its open session.
abbrev pub work_for : List Entry → Option Player → ℕ
work_for h None = 0
work_for h (Some p) = work_in h p (open_session p)

abbrev pub work_of_session : ℕ → Run → ℕ
work_of_session s run = work_left run.players s run.history

abbrev pub work_of_client : ℕ → Run → ℕ
work_of_client k run = work_for run.history (slice_get run.players k)

-- A turn found something to do, and less is left of it; or it found nothing, and nothing changed.
abbrev pub Found : (Run → ℕ) → Run → Run → Bool → Type 0
Found work old new true = work new < work old
Found work old new false = new ≡ old
