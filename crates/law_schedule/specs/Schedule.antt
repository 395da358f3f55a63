-- The run that a scenario's schedule gives, turn by turn, over the server that answers by the table.
-- A history is the list of a journal's entries with the latest first.
use Rattle.std.specs.Prelude.{ℕ, Bool, List}
use Rattle.sv_wire.specs.declared.message.Request.{Request}
use Rattle.sv_journal.specs.declared.entry.Entry.{Entry}
use Rattle.sv_journal.specs.Answer.{Rules, reply_to}
use Rattle.sv_scenario.specs.declared.scenario.Scenario.{Scenario}
use Rattle.sv_scenario.specs.declared.scenario.Turn.{Turn}
use Rattle.sv_scenario.specs.Sessions.{session_count}
use Rattle.law_schedule.specs.Players.{Player}
use Rattle.law_schedule.specs.Serving.{Run, Server, served, serves_next, session_served, turn_served, turns_served, all_served, sessions_served, after_served, round_served, run_served}
pub use Rattle.law_system.specs.Records.{rules_of}

-- It hears what is asked, and answers by the table.
abbrev pub plain_server : Rules → Server
plain_server r = record { hears = λ h s request. request; answers = λ h s request. reply_to r h s request }

abbrev pub plainly_served : Rules → List Entry → ℕ → Request → List Entry
plainly_served r h s request = served (plain_server r) h s request

abbrev pub steps_next : Rules → List Entry → ℕ → Bool → List Request → List Entry
steps_next r h s closed waiting = serves_next (plain_server r) h s closed waiting

abbrev pub session_turn : Rules → List Player → List Entry → ℕ → List Entry
session_turn r players h s = session_served (plain_server r) players h s

abbrev pub turned : Rules → Run → Turn → Run
turned r run turn = turn_served (plain_server r) run turn

abbrev pub all_turned : Rules → Run → List Turn → Run
all_turned r run turns = turns_served (plain_server r) run turns

abbrev pub session_turns : Rules → List Player → List Entry → ℕ → List Entry
session_turns r players h s = all_served (plain_server r) players h s

abbrev pub sessions_turned : Rules → List Player → List Entry → List ℕ → List Entry
sessions_turned r players h sessions = sessions_served (plain_server r) players h sessions

abbrev pub after_sessions : Scenario → Run → Run
after_sessions scenario run = after_served (plain_server (rules_of scenario)) (session_count scenario) run

abbrev pub round : Scenario → Run → Run
round scenario run = round_served (plain_server (rules_of scenario)) (session_count scenario) run

-- The run of a scenario: the turns of its schedule, and then rounds.
abbrev pub scheduled_run : Scenario → Run
scheduled_run scenario = run_served (plain_server (rules_of scenario)) scenario
