-- A witnessing server that hears lies of one client, as a run sees it.
-- A history is the list of a journal's entries with the latest first.
use Rattle.std.specs.Prelude.{ℕ, ℤ, Bool, false, List, Option, Some, None}
use Rattle.sv_journal.specs.declared.entry.Entry.{Entry}
use Rattle.sv_journal.specs.History.{client_of, is_client}
use Rattle.sv_scenario.specs.declared.scenario.Scenario.{Scenario}
use Rattle.sv_scenario.specs.Limits.{IsGoodScenario}
use Rattle.law_asked.specs.Numbers.{ScenarioFits}
use Rattle.sv_sequencer.specs.Step.{history}
use Rattle.law_schedule.specs.Serving.{traces_of}
use Rattle.law_schedule.specs.Schedule.{rules_of}
use Rattle.sv_replay.specs.Serving.{ServerView}
use Rattle.sv_replay.specs.Playable.{IsPlayable}
use Rattle.sv_witness.specs.declared.liar.Lying.{Lying}
use Rattle.sv_witness.specs.Reports.{agreed_world}
use Rattle.sv_witness.specs.Run.{witness_of, witnessed_run, IsWitnessedRun}

-- The liar joined the session.
abbrev pub hears_lies : Option ℕ → List Entry → ℕ → Bool
hears_lies None h s = false
hears_lies (Some liar) h s = is_client (client_of h s) liar

abbrev pub lying_view : Lying → ServerView
lying_view a = record { rules = a.witness.rules; server = witness_of a.witness.rules a.liar; history = history a.witness }

-- What was agreed of all objects.
abbrev pub lying_world : Lying → List (List ℤ)
lying_world a = agreed_world a.witness.rules.world.values (history a.witness)

-- A scenario can be run over it.
abbrev pub WitnessesArePlayable : Type 0
WitnessesArePlayable = (scenario : Scenario) (liar : Option ℕ) → IsGoodScenario scenario → ScenarioFits scenario → IsPlayable scenario (witness_of (rules_of scenario) liar)

-- The run is as it is said to be.
abbrev pub RunsAreWitnessed : Type 0
RunsAreWitnessed = (scenario : Scenario) (liar : Option ℕ) → IsGoodScenario scenario →
    IsWitnessedRun scenario liar (witnessed_run scenario liar).history (traces_of (witnessed_run scenario liar))
