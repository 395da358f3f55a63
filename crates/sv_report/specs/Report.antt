-- The report of a run: its journal, what each client did, and the committed world.
use Rattle.std.specs.Prelude.{ℕ, zero, suc, ◌+◌, ◌==◌, ℤ, List, [], ◌∷◌, ◌++◌, length, reverse, Option, Some, None, if◌then◌else◌, codes}
use Rattle.std.specs.List.{flat_map, zip}
use Rattle.std.specs.Fmt.{decimal}
use Rattle.sv_world.specs.Sets.{write_set}
use Rattle.sv_world.specs.declared.world.ObjectId.{ObjectId}
use Rattle.sv_world.specs.declared.world.World.{World}
use Rattle.sv_journal.specs.declared.entry.Entry.{Entry}
use Rattle.sv_journal.specs.History.{commit_of, committed_of}
use Rattle.sv_journal.specs.Pieces.{bracketed, held_text, objects_text}
use Rattle.sv_journal.specs.Text.{journal_text}
use Rattle.sv_pending.specs.Pending.{kept_of}
use Rattle.sv_client.specs.declared.trace.Event.{Event}
use Rattle.sv_client.specs.declared.trace.Event.TheVariants as events
use Rattle.sv_client.specs.declared.trace.Trace.{Trace}
use Rattle.sv_client.specs.Traces.{held_of, pending_of, view_of, makes, got}

-- The number, among entries numbered from n on, of the entry of session s that r others of it come before.
abbrev pub entry_number : List Entry → ℕ → ℕ → ℕ → ℕ
entry_number [] s r n = n
entry_number (e ∷ es) s zero n = if e.session == s then n else entry_number es s zero (n + 1)
entry_number (e ∷ es) s (suc r) n = if e.session == s then entry_number es s r (n + 1) else entry_number es s (suc r) (n + 1)

-- `[0=(6)]` for what is kept by object, or `none`
abbrev pub kept_text : List ℕ → Option (List (List ℤ)) → List ℕ
kept_text objects None = codes "none"
kept_text objects (Some values) = bracketed (λ (p : ℕ × List ℤ). held_text p.0 p.1) (zip objects values)

-- `0=(6)`, or `0=?` where the view is unknown
abbrev pub shown_text : ℕ → Option (List ℤ) → List ℕ
shown_text object None = decimal object ++ codes "=?"
shown_text object (Some value) = held_text object value

-- The text of an event after the events t, whose latest stands first. A reply is named by the number of its journal entry.
abbrev pub event_text : List Entry → List Event → Event → List ℕ
event_text entries t (events.Join s) = codes "join s" ++ decimal s
event_text entries t (events.Make action) =
    codes "make " ++ decimal (suc (makes t)) ++ codes " kept " ++ kept_text (write_set action) (kept_of (held_of t) (pending_of t) action)
event_text entries t events.Poll = codes "poll"
event_text entries t (events.Observe objects wait) = codes "observe " ++ objects_text objects
event_text entries t events.Leave = codes "leave"
event_text entries t (events.Got s reply) = codes "got s" ++ decimal s ++ codes " #" ++ decimal (entry_number entries s (length (got t s)) 1)
event_text entries t events.Cut = codes "cut"
event_text entries t events.Quit = codes "quit"
event_text entries t (events.Show objects) = codes "show " ++ bracketed (λ (o : ObjectId). shown_text o.0 (view_of t o.0)) objects

abbrev pub event_lines : List Entry → List Event → List ℕ
event_lines entries [] = []
event_lines entries (e ∷ t) = event_lines entries t ++ event_text entries t e ++ 10 ∷ []

abbrev pub trace_text : List Entry → Trace → List ℕ
trace_text entries trace = codes "client " ++ decimal trace.client.0 ++ 10 ∷ event_lines entries (reverse trace.events)

-- The values of objects from a number on, one to a line.
abbrev pub value_lines : ℕ → List (List ℤ) → List ℕ
value_lines object [] = []
value_lines object (v ∷ vs) = held_text object v ++ 10 ∷ value_lines (object + 1) vs

abbrev pub world_text : ℕ → List (List ℤ) → List ℕ
world_text commit values = codes "world " ++ decimal commit ++ 10 ∷ value_lines 0 values

-- The report of entries and traces over an opening world.
abbrev pub report_text : World → List Entry → List Trace → List ℕ
report_text world entries traces = journal_text world.shape entries ++ flat_map (trace_text entries) traces
    ++ world_text (commit_of (reverse entries)) (committed_of world.values (reverse entries))
