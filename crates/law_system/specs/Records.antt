-- The record of a scenario's run: its journal, a trace for each client, and what is true of them, whatever the schedule.
-- A history is the list of a journal's entries with the latest first.
use Rattle.std.specs.Prelude.{◌≡◌, ℕ, suc, ◌+◌, ◌<◌, ◌&&◌, ◌==◌, List, [], ◌∷◌, reverse, All, if◌then◌else◌}
use Rattle.sv_world.specs.declared.world.Shape.{Shape}
use Rattle.sv_eval.specs.Serial.{serial_world}
use Rattle.sv_journal.specs.declared.entry.Entry.{Entry}
use Rattle.sv_journal.specs.History.{actions_of, commit_of, committed_of}
use Rattle.sv_journal.specs.Sessions.{is_end}
use Rattle.sv_journal.specs.Answer.{Rules, scenario_rules, Legal}
use Rattle.sv_client.specs.declared.trace.Trace.{Trace}
use Rattle.sv_client.specs.Proper.{Proper}
use Rattle.sv_scenario.specs.declared.scenario.Plan.{Plan}
use Rattle.sv_scenario.specs.declared.scenario.Scenario.{Scenario}
use Rattle.sv_scenario.specs.Sessions.{sessions_of_plan, session_count}
use Rattle.sv_script.specs.Following.{FollowsToEnd, IsCarriedOut}
use Rattle.law_system.specs.declared.played.Played.{Played}
use Rattle.law_system.specs.Fits.{Fits}
use Rattle.law_system.specs.Outcomes.{OutcomesAreRight}
use Rattle.law_system.specs.Serial.{ValuesAreSerial, RelaysAreSufficient}
use Rattle.law_system.specs.Cuts.{SeenAreCuts}

-- The rules that a scenario's server is opened with.
abbrev pub rules_of : Scenario → Rules
rules_of scenario = scenario_rules scenario.world scenario.bound scenario.reach (session_count scenario)

-- ---- Traffic

-- How many Ends a session has.
abbrev pub ends_in : List Entry → ℕ → ℕ
ends_in [] s = 0
ends_in (e ∷ h) s = if e.session == s && is_end e.request then suc (ends_in h s) else ends_in h s

-- There is one trace for each client, in order: of clients numbered from k on, with sessions numbered from s on.
abbrev pub AreTracesOf : ℕ → ℕ → List Plan → List Trace → Type 0
AreTracesOf k s [] [] = Unit {0}
AreTracesOf k s (plan ∷ plans) (L ∷ Ls) =
    (L.client ≡ record { 0 = k }) × (L.interest ≡ plan.interest) × (L.first ≡ s) × AreTracesOf (suc k) (s + sessions_of_plan plan) plans Ls
AreTracesOf k s _ _ = ⊥

-- The journal is legal and fits the traces; each trace is one that a client of a scenario can have; the journal has entries of the scenario's
-- sessions alone, and exactly one End for each; and there is one trace for each client.
pub record IsRecordOf (scenario : Scenario) (h : List Entry) (Ls : List Trace) : Type 0 where
  pub legal : Legal (rules_of scenario) h
  pub fits : Fits scenario.world.shape h Ls
  pub proper : All (Proper scenario.world.shape) Ls
  pub sessions : All (λ (e : Entry). e.session < session_count scenario) h
  pub ended : (s : ℕ) → s < session_count scenario → ends_in h s ≡ 1
  pub clients : AreTracesOf 0 0 scenario.clients Ls

-- ---- Scripts

-- There is one trace for each plan, in order, and this holds of each plan and its trace.
abbrev pub EachTrace : (Plan → Trace → Type 0) → List Plan → List Trace → Type 0
EachTrace P [] [] = Unit {0}
EachTrace P (plan ∷ plans) (L ∷ Ls) = P plan L × EachTrace P plans Ls
EachTrace P _ _ = ⊥

-- Each trace follows its client's script to the end.
abbrev pub ScriptsAreFollowed : Shape → List Plan → List Trace → Type 0
ScriptsAreFollowed shape plans Ls = EachTrace (λ plan L. FollowsToEnd shape plan.steps L) plans Ls

-- Each client did all of its script.
abbrev pub ScriptsAreDone : Shape → List Plan → List Trace → Type 0
ScriptsAreDone shape plans Ls = EachTrace (λ plan L. IsCarriedOut shape plan.steps L) plans Ls

-- ---- The whole

-- The record of a run: its traffic, each value at a position the serial execution's, the committed world too, each relay sufficient, all that
-- was seen one cut, each script carried out, and one outcome for each action of a client that did not quit.
pub record IsFullRecord (scenario : Scenario) (h : List Entry) (Ls : List Trace) : Type 0 where
  pub traffic : IsRecordOf scenario h Ls
  pub values : ValuesAreSerial scenario.world.values h Ls
  pub world : committed_of scenario.world.values h ≡ serial_world scenario.world.values (actions_of h) (commit_of h)
  pub relays : RelaysAreSufficient h Ls
  pub seen : SeenAreCuts scenario.world.shape scenario.world.values h Ls
  pub scripts : ScriptsAreDone scenario.world.shape scenario.clients Ls
  pub outcomes : OutcomesAreRight (rules_of scenario) h Ls

-- What was played has a record of the scenario's traffic, with the scenario's shape, and the commit and the committed values of its journal.
pub record IsPlayed (scenario : Scenario) (played : Played) : Type 0 where
  pub traffic : IsRecordOf scenario (reverse played.journal.entries) played.traces
  pub shape : played.shape ≡ scenario.world.shape
  pub commit : played.commit ≡ commit_of (reverse played.journal.entries)
  pub committed : played.committed ≡ committed_of scenario.world.values (reverse played.journal.entries)
