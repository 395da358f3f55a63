-- Parts of reports: as much of one as some first lines can tell, with nothing wrong so far.
-- A history is the list of a journal's entries with the latest first; the events of a trace stand in order.
use Rattle.std.specs.Prelude.{◌≡◌, ◌⊎◌, ℕ, ◌+◌, ◌^◌, ◌<◌, ◌≤◌, true, false, List, [], ◌∷◌, ◌++◌, length, reverse, take, codes}
use Rattle.std.specs.List.{flat_map}
use Rattle.std.specs.Fmt.{decimal}
use Rattle.sv_world.specs.declared.world.Shape.{Shape}
use Rattle.sv_journal.specs.declared.entry.Entry.{Entry}
use Rattle.sv_journal.specs.History.{accepted, commit_of, committed_of}
use Rattle.sv_journal.specs.Sessions.{is_end, is_ended}
use Rattle.sv_journal.specs.Answer.{reply_to}
use Rattle.sv_journal.specs.Text.{entry_lines, journal_text}
use Rattle.sv_client.specs.declared.trace.Trace.{Trace}
use Rattle.sv_client.specs.Traces.{got}
use Rattle.sv_client.specs.Proper.{Proper}
use Rattle.sv_scenario.specs.declared.scenario.Plan.{Plan}
use Rattle.sv_scenario.specs.declared.scenario.Scenario.{Scenario}
use Rattle.sv_scenario.specs.Sessions.{sessions_in, session_count}
use Rattle.sv_script.specs.Following.{Follows, FollowsToEnd}
use Rattle.law_system.specs.Fits.{replies_in, has_session, FitsIn}
use Rattle.law_system.specs.Fronts.{IsFront}
use Rattle.law_system.specs.Records.{rules_of, ends_in, AreTracesOf, EachTrace}
use Rattle.sv_lines.specs.Told.{IsTold}
use Rattle.sv_report.specs.Report.{trace_text, report_text, value_lines}

-- ---- The journal

-- The entry may come after the entries h: it is of a session of the scenario, has a request that can be told, is no second End of its session,
-- and the reply is the one that the entries before it give.
pub record IsEntryAfter (scenario : Scenario) (h : List Entry) (e : Entry) : Type 0 where
  pub session : e.session < session_count scenario
  pub told : IsTold scenario.world.shape e.request
  pub once : is_end e.request ≡ true → is_ended h e.session ≡ false
  pub reply : e.reply ≡ reply_to (rules_of scenario) h e.session e.request

abbrev pub AreEntries : Scenario → List Entry → Type 0
AreEntries scenario [] = Unit {0}
AreEntries scenario (e ∷ h) = IsEntryAfter scenario h e × AreEntries scenario h

-- They are right entries of some scenario.
abbrev pub AreSomeEntries : List Entry → Type 0
AreSomeEntries h = (scenario : Scenario) × AreEntries scenario h

-- `journal N`, and the lines of the first entries.
pub record IsJournalPart (scenario : Scenario) (text : List ℕ) : Type 0 where
  pub count : ℕ
  pub h : List Entry
  pub small : count < 2 ^ 32
  pub within : length h ≤ count
  pub entries : AreEntries scenario h
  pub text_is : text ≡ codes "journal " ++ decimal count ++ 10 ∷ entry_lines scenario.world.shape (accepted h) 1 (reverse h)

-- All entries are right, and each session has its End.
pub record IsWholeJournal (scenario : Scenario) (h : List Entry) : Type 0 where
  pub entries : AreEntries scenario h
  pub ended : (s : ℕ) → s < session_count scenario → ends_in h s ≡ 1

-- ---- The traces

-- A trace is right so far: a client can have it, it follows the script, and in each of its sessions it got the first of the session's replies.
pub record IsTraceSoFar (scenario : Scenario) (h : List Entry) (plan : Plan) (L : Trace) : Type 0 where
  pub proper : Proper scenario.world.shape L
  pub follows : Follows scenario.world.shape plan.steps L
  pub got_is : (s : ℕ) → has_session L s ≡ true → IsFront (got (reverse L.events) s) (replies_in (accepted h) h s)

-- A trace is right to its end: it follows the script to the end, and each of its sessions fits the journal.
pub record IsWholeTrace (shape : Shape) (h : List Entry) (plan : Plan) (L : Trace) : Type 0 where
  pub proper : Proper shape L
  pub follows : FollowsToEnd shape plan.steps L
  pub fits : (s : ℕ) → has_session L s ≡ true → FitsIn h L s

-- The traces of the first clients, whose plans these are, whole.
pub record AreFirstTraces (shape : Shape) (h : List Entry) (plans : List Plan) (Ls : List Trace) : Type 0 where
  pub clients : AreTracesOf 0 0 plans Ls
  pub whole : EachTrace (IsWholeTrace shape h) plans Ls

-- The trace is of the client with this number and plan, whose first session has this number.
pub record IsOf (number first : ℕ) (plan : Plan) (L : Trace) : Type 0 where
  pub client : L.client ≡ record { 0 = number }
  pub interest : L.interest ≡ plan.interest
  pub first_is : L.first ≡ first

-- The whole journal, whole traces of some first clients, and the first lines of the next client's part.
pub record IsClientPart (scenario : Scenario) (text : List ℕ) : Type 0 where
  pub h : List Entry
  pub journal : IsWholeJournal scenario h
  pub before : List Plan
  pub plan : Plan
  pub after : List Plan
  pub plans : scenario.clients ≡ before ++ plan ∷ after
  pub Ls : List Trace
  pub done : AreFirstTraces scenario.world.shape h before Ls
  pub L : Trace
  pub next : IsOf (length before) (sessions_in before) plan L
  pub so_far : IsTraceSoFar scenario h plan L
  pub text_is : text ≡ journal_text scenario.world.shape (reverse h) ++ flat_map (trace_text (reverse h)) Ls ++ trace_text (reverse h) L

-- ---- The world

-- The whole journal, all traces, `world C`, and the values of some first objects.
pub record IsWorldPart (scenario : Scenario) (text : List ℕ) : Type 0 where
  pub h : List Entry
  pub journal : IsWholeJournal scenario h
  pub Ls : List Trace
  pub traces : AreFirstTraces scenario.world.shape h scenario.clients Ls
  pub count : ℕ
  pub within : count ≤ scenario.world.shape.objects
  pub text_is : text ≡ journal_text scenario.world.shape (reverse h) ++ flat_map (trace_text (reverse h)) Ls
      ++ codes "world " ++ decimal (commit_of h) ++ 10 ∷ value_lines 0 (take count (committed_of scenario.world.values h))

-- ---- Any part

-- Some first lines of a report, with nothing wrong so far.
abbrev pub IsReportPart : Scenario → List ℕ → Type 0
IsReportPart scenario text = (text ≡ []) ⊎ (IsJournalPart scenario text ⊎ (IsClientPart scenario text ⊎ IsWorldPart scenario text))
