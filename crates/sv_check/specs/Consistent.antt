-- When a report is a true one. A history is the list of a journal's entries with the latest first.
use Rattle.std.specs.Prelude.{◌≡◌, ℕ, List, reverse}
use Rattle.sv_journal.specs.declared.entry.Entry.{Entry}
use Rattle.sv_client.specs.declared.trace.Trace.{Trace}
use Rattle.sv_scenario.specs.declared.scenario.Scenario.{Scenario}
use Rattle.law_system.specs.declared.played.Played.{Played}
use Rattle.law_system.specs.Records.{IsRecordOf, ScriptsAreFollowed, IsPlayed}
use Rattle.sv_report.specs.Report.{report_text}

-- A journal and traces are consistent: they are the record of a scenario's traffic, and each trace follows its client's script to the end.
-- This is what `replay` and `play` promise of what they print. A law of whole runs says what follows of it: all values are serial, each
-- relay is sufficient, and each script is carried out.
pub record IsConsistent (scenario : Scenario) (h : List Entry) (Ls : List Trace) : Type 0 where
  pub traffic : IsRecordOf scenario h Ls
  pub scripts : ScriptsAreFollowed scenario.world.shape scenario.clients Ls

-- The text is the report of the journal h and the traces Ls, which are consistent.
pub record IsReportOfPair (scenario : Scenario) (text : List ℕ) (h : List Entry) (Ls : List Trace) : Type 0 where
  pub consistent : IsConsistent scenario h Ls
  pub text_is : text ≡ report_text scenario.world (reverse h) Ls

-- The text is the report of what was played, which is consistent.
pub record IsReportOf (scenario : Scenario) (text : List ℕ) (played : Played) : Type 0 where
  pub played_is : IsPlayed scenario played
  pub pair : IsReportOfPair scenario text (reverse played.journal.entries) played.traces

-- The text is the report of some consistent journal and traces.
abbrev pub IsReport : Scenario → List ℕ → Type 0
IsReport scenario text = (h : List Entry) × ((Ls : List Trace) × IsReportOfPair scenario text h Ls)
