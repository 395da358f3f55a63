-- When a run has nothing left to do.
-- A history is the list of a journal's entries with the latest first; events stand with the latest first too.
use Rattle.std.specs.Prelude.{◌≡◌, ℕ, ◌<◌, true, length, slice_get, Some, None, All}
use Rattle.sv_wire.specs.declared.message.Reply.{Reply}
use Rattle.sv_journal.specs.History.{accepted}
use Rattle.sv_journal.specs.Sessions.{is_ended}
use Rattle.sv_client.specs.Traces.{current_session, got}
use Rattle.sv_client.specs.Taking.{first_fault_of_reply}
use Rattle.sv_scenario.specs.declared.scenario.Scenario.{Scenario}
use Rattle.sv_scenario.specs.Sessions.{session_count}
use Rattle.law_system.specs.Fits.{replies_in}
use Rattle.law_schedule.specs.Players.{Player}
use Rattle.law_schedule.specs.Serving.{Run, Server}
use Rattle.law_schedule.specs.Served.{IsSoundOver}

-- Each player closed its last link, and each session had its End.
pub record IsRunDone (scenario : Scenario) (run : Run) : Type 0 where
  pub closed : All (λ (p : Player). p.closed ≡ true) run.players
  pub ended : (s : ℕ) → s < session_count scenario → is_ended run.history s ≡ true

-- In a sound run over the server no client refuses the next reply of its latest session.
abbrev pub NextRepliesAreTaken : Server → Scenario → Type 0
NextRepliesAreTaken server scenario = (run : Run) (k : ℕ) (p : Player) (s : ℕ) (reply : Reply) → IsSoundOver server scenario run → slice_get run.players k ≡ Some p →
    current_session p.events ≡ Some s → slice_get (replies_in (accepted run.history) run.history s) (length (got p.events s)) ≡ Some reply →
    first_fault_of_reply p.who p.events reply ≡ None
