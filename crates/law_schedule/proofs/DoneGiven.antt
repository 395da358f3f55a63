-- What the proof that runs end takes from elsewhere: that they are sound, and stay so.
use Rattle.std.proofs.Common.{◌≡◌, ℕ, List, length}
use Rattle.sv_wire.specs.declared.message.Request.{Request}
use Rattle.sv_journal.specs.declared.entry.Entry.{Entry}
use Rattle.sv_journal.specs.Sessions.{is_end}
use Rattle.sv_scenario.specs.declared.scenario.Scenario.{Scenario}
use Rattle.sv_scenario.specs.declared.scenario.Turn.{Turn}
use Rattle.sv_scenario.specs.Limits.{IsGoodTurn}
use Rattle.sv_scenario.specs.Sessions.{session_count}
use Rattle.law_schedule.specs.Serving.{Run, Server, opening_run, turn_served, after_clients, after_served, after_takes}
use Rattle.law_schedule.specs.Served.{IsSoundOver}

-- The server hears an End just where one is made.
abbrev pub HearsEnds : Server → Type 0
HearsEnds server = (h : List Entry) (s : ℕ) (request : Request) → is_end (server.hears h s request) ≡ is_end request

-- Runs over it are sound at first, and stay so.
pub record StaySound (server : Server) (scenario : Scenario) : Type 0 where
  pub hears : HearsEnds server
  pub opening : IsSoundOver server scenario (opening_run scenario)
  pub turns : (run : Run) (turn : Turn) → IsGoodTurn (length scenario.clients) (session_count scenario) turn → IsSoundOver server scenario run →
      IsSoundOver server scenario (turn_served server run turn)
  pub clients : (run : Run) → IsSoundOver server scenario run → IsSoundOver server scenario (after_clients run)
  pub sessions : (run : Run) → IsSoundOver server scenario run → IsSoundOver server scenario (after_served server (session_count scenario) run)
  pub takes : (run : Run) → IsSoundOver server scenario run → IsSoundOver server scenario (after_takes run)
