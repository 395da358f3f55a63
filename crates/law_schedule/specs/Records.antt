-- When a journal and traces are those of a scenario's scheduled run.
-- A history is the list of a journal's entries with the latest first.
use Rattle.std.specs.Prelude.{◌≡◌, List}
use Rattle.sv_journal.specs.declared.entry.Entry.{Entry}
use Rattle.sv_client.specs.declared.trace.Trace.{Trace}
use Rattle.sv_scenario.specs.declared.scenario.Scenario.{Scenario}
use Rattle.law_system.specs.Records.{IsFullRecord}
use Rattle.law_schedule.specs.Serving.{traces_of}
use Rattle.law_schedule.specs.Schedule.{scheduled_run}

-- The journal and the traces are those of the scenario's scheduled run.
pub record AreScheduled (scenario : Scenario) (h : List Entry) (Ls : List Trace) : Type 0 where
  pub journal : h ≡ (scheduled_run scenario).history
  pub traces : Ls ≡ traces_of (scheduled_run scenario)

-- The headline of a replay: the full record of the run that the scenario's schedule gives.
pub record IsReplay (scenario : Scenario) (h : List Entry) (Ls : List Trace) : Type 0 where
  pub full : IsFullRecord scenario h Ls
  pub scheduled : AreScheduled scenario h Ls
