-- What was read of a text, where none of its lines is wrong.
use Rattle.std.specs.Prelude.{◌≡◌, ℕ, List, ◌++◌, reverse}
use Rattle.std.specs.List.{flat_map}
use Rattle.sv_journal.specs.Text.{journal_text}
use Rattle.sv_client.specs.declared.trace.Trace.{Trace}
use Rattle.sv_scenario.specs.declared.scenario.Scenario.{Scenario}
use Rattle.law_system.specs.declared.played.Played.{Played}
use Rattle.law_system.specs.Records.{IsPlayed}
use Rattle.sv_report.specs.Report.{trace_text}
use Rattle.sv_check.specs.declared.journal.Served.{Served}
use Rattle.sv_check.specs.Consistent.{IsConsistent}
use Rattle.sv_check.specs.Serving.{entries_of}

-- What was played is consistent.
pub record IsRightPlayed (scenario : Scenario) (played : Played) : Type 0 where
  pub played_is : IsPlayed scenario played
  pub consistent : IsConsistent scenario (reverse played.journal.entries) played.traces

-- It has the server's journal and these traces.
pub record IsOfServed (served : Served) (Ls : List Trace) (played : Played) : Type 0 where
  pub entries : played.journal.entries ≡ entries_of served
  pub traces : played.traces ≡ Ls

-- What its report has before the world's lines.
abbrev pub before_world : Scenario → Played → List ℕ
before_world scenario played = journal_text scenario.world.shape played.journal.entries ++ flat_map (trace_text played.journal.entries) played.traces
