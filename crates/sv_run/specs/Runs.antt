-- What is run, the record that it leaves, and the text that tells it.
-- A journal `h` has its latest entry first.
use Rattle.std.specs.Prelude.{◌≡◌, ℕ, Bool, true, false, List, ◌++◌, reverse, Option, Some, None, codes}
use Rattle.std.specs.Fmt.{decimal}
use Rattle.std.specs.List.{flat_map}
use Rattle.sv_link.specs.Nets.{Transcript}
use Rattle.sv_journal.specs.declared.entry.Entry.{Entry}
use Rattle.sv_client.specs.declared.trace.Trace.{Trace}
use Rattle.sv_scenario.specs.declared.scenario.Scenario.{Scenario}
use Rattle.sv_gen.specs.Generated.{generated}
use Rattle.sv_script.specs.Telling.{told_lines}
use Rattle.sv_player.specs.Played.{lines_told}
use Rattle.law_system.specs.Records.{IsPlayed}
use Rattle.law_schedule.specs.Records.{IsReplay}
use Rattle.sv_report.specs.Report.{report_text}
use Rattle.sv_report.specs.Summary.{summary_text}
use Rattle.sv_threads.specs.Moved.{Moved}
use Rattle.sv_threads.specs.Playing.{IsThreadedRun}
use Rattle.sv_ending.specs.Lines.{ended_line}
use Rattle.sv_ending.specs.Reading.{IsRead}
use Rattle.sv_run.specs.declared.playing.Threaded.{Threaded}
use Rattle.sv_run.specs.declared.words.Form.{Form}
use Rattle.sv_run.specs.declared.words.Form.TheVariants as forms
use Rattle.sv_run.specs.Words.{Asked, Play, Replay, Load}

-- ---- The scenario

-- The scenario that is to be run, by what the file holds: the file's, or the generated one of the size.
abbrev pub IsScenarioFor : Asked → Option (List ℕ) → Scenario → Type 0
IsScenarioFor (Play file form) held scenario = IsRead held scenario
IsScenarioFor (Replay file) held scenario = IsRead held scenario
IsScenarioFor (Load size) held scenario = scenario ≡ generated size

-- ---- The record

-- The record of the run: of the scenario's schedule for a replay, and else of threads, whose net has each session's transcript more: kept
-- are the transcripts of the pairs that were settled.
abbrev pub IsRecordFor : Asked → Moved Transcript → Scenario → List Entry → List Trace → Type 0
IsRecordFor (Play file form) m scenario h Ls = IsThreadedRun scenario h Ls m.kept_before m.kept_now m.ran_before m.ran_now
IsRecordFor (Replay file) m scenario h Ls = IsReplay scenario h Ls
IsRecordFor (Load size) m scenario h Ls = IsThreadedRun scenario h Ls m.kept_before m.kept_now m.ran_before m.ran_now

-- ---- The text

-- The lines that tell what changed of the clients' views, client by client.
abbrev pub told_text : List Trace → List ℕ
told_text Ls = flat_map ended_line (flat_map told_lines Ls)

abbrev pub form_text : Form → Scenario → List Entry → List Trace → List ℕ
form_text forms.Report scenario h Ls = report_text scenario.world (reverse h) Ls
form_text forms.Watch scenario h Ls = report_text scenario.world (reverse h) Ls ++ told_text Ls
form_text forms.Brief scenario h Ls = summary_text scenario (reverse h) Ls

abbrev pub text_for : Asked → Scenario → List Entry → List Trace → List ℕ
text_for (Play file form) scenario h Ls = form_text form scenario h Ls
text_for (Replay file) scenario h Ls = form_text forms.Report scenario h Ls
text_for (Load size) scenario h Ls = codes "load " ++ decimal size ++ codes "\n" ++ form_text forms.Brief scenario h Ls

-- The text tells the run that is asked for: its journal and its clients' traces are a record of the scenario's traffic, with serial values,
-- sufficient relays, one cut in all that was seen, and each script carried out.
pub record IsText (asked : Asked) (held : Option (List ℕ)) (m : Moved Transcript) (text : List ℕ) : Type 0 where
  pub scenario : Scenario
  pub h : List Entry
  pub Ls : List Trace
  pub scenario_is : IsScenarioFor asked held scenario
  pub record_is : IsRecordFor asked m scenario h Ls
  pub text_is : text ≡ text_for asked scenario h Ls

-- The text tells it where something is asked for, and else there is none.
abbrev pub IsTextFor : Option Asked → Option (List ℕ) → Moved Transcript → List ℕ → Type 0
IsTextFor (Some asked) held m text = IsText asked held m text
IsTextFor None held m text = ⊥

-- Whether the changes of the clients' views are told.
abbrev pub is_watched : Form → Bool
is_watched forms.Watch = true
is_watched _ = false

-- What is left of a run on threads that is told in this form.
pub record IsThreaded (scenario : Scenario) (form : Form) (m : Moved Transcript) (threaded : Threaded) : Type 0 where
  pub run : IsThreadedRun scenario (reverse threaded.played.journal.entries) threaded.played.traces m.kept_before m.kept_now m.ran_before m.ran_now
  pub played : IsPlayed scenario threaded.played
  pub lines : threaded.lines.items ≡ flat_map (lines_told (is_watched form)) threaded.played.traces
