-- Over which servers a scenario can be run.
-- A history is the list of a journal's entries with the latest first.
use Rattle.std.specs.Prelude.{◌≡◌, ℕ, length, slice_get, Some, None, All}
use Rattle.sv_wire.specs.declared.message.Reply.{Reply}
use Rattle.sv_wire.specs.Laws.{IsReply}
use Rattle.sv_journal.specs.declared.entry.Entry.{Entry}
use Rattle.sv_journal.specs.History.{accepted, full_reply}
use Rattle.sv_client.specs.declared.trace.Trace.{Trace}
use Rattle.sv_client.specs.Traces.{current_session, got}
use Rattle.sv_client.specs.Taking.{first_fault_of_reply}
use Rattle.sv_scenario.specs.declared.scenario.Scenario.{Scenario}
use Rattle.sv_scenario.specs.Limits.{IsGoodScenario}
use Rattle.law_system.specs.Fits.{replies_in}
use Rattle.law_asked.specs.Asked.{EventFits}
use Rattle.law_asked.specs.Numbers.{ScenarioFits}
use Rattle.law_schedule.specs.Players.{Player}
use Rattle.law_schedule.specs.Serving.{Run, Server, traces_of}
use Rattle.law_schedule.specs.Schedule.{rules_of, plain_server}
use Rattle.law_schedule.specs.Served.{KeepsSound, IsSoundOver}
use Rattle.sv_replay.specs.Messages.{AsksMessages}

-- The runs over the server stay sound. In a sound one whatever is asked and replied is a message, and no client refuses its next reply.
pub record IsPlayable (scenario : Scenario) (server : Server) : Type 0 where
  pub keeps : KeepsSound server
  pub asked : (run : Run) (k : ℕ) (p : Player) → IsSoundOver server scenario run → slice_get run.players k ≡ Some p → AsksMessages p
  pub replied : (run : Run) → IsSoundOver server scenario run → All (λ (e : Entry). IsReply (full_reply (accepted run.history) e.reply)) run.history
  pub taken : (run : Run) (k : ℕ) (p : Player) (s : ℕ) (reply : Reply) → IsSoundOver server scenario run → slice_get run.players k ≡ Some p →
      current_session p.events ≡ Some s → slice_get (replies_in (accepted run.history) run.history s) (length (got p.events s)) ≡ Some reply →
      first_fault_of_reply p.who p.events reply ≡ None

-- A scenario can be run over the server that answers by the table.
abbrev pub ScenariosArePlayable : Type 0
ScenariosArePlayable = (scenario : Scenario) → IsGoodScenario scenario → ScenarioFits scenario → IsPlayable scenario (plain_server (rules_of scenario))

-- The actions that the players of a sound run made are those of their scripts: their numbers are those of their types, where the scenario's are.
abbrev pub MadeActionsFit : Type 0
MadeActionsFit = (server : Server) (scenario : Scenario) (run : Run) → ScenarioFits scenario → IsSoundOver server scenario run →
    All (λ (L : Trace). All EventFits L.events) (traces_of run)
