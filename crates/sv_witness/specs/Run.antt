-- The witnessed run that a scenario's schedule gives, with a client that lies or with none.
-- A history is the list of a journal's entries with the latest first.
use Rattle.std.specs.Prelude.{◌≡◌, ℕ, ◌<◌, List, [], Option, Some, None, All, if◌then◌else◌}
use Rattle.sv_eval.specs.Serial.{serial_world}
use Rattle.sv_wire.specs.declared.message.Request.{Request}
use Rattle.sv_journal.specs.declared.entry.Entry.{Entry}
use Rattle.sv_journal.specs.History.{client_of, is_client, actions_of}
use Rattle.sv_journal.specs.Answer.{Rules}
use Rattle.sv_client.specs.declared.trace.Trace.{Trace}
use Rattle.sv_scenario.specs.declared.scenario.Scenario.{Scenario}
use Rattle.sv_scenario.specs.Sessions.{session_count}
use Rattle.law_system.specs.Records.{ScriptsAreDone, ends_in}
use Rattle.law_schedule.specs.Serving.{Run, Server, run_served, traces_of}
use Rattle.law_schedule.specs.Schedule.{rules_of}
use Rattle.sv_witness.specs.Reports.{agreed_commit, agreed_world}
use Rattle.sv_witness.specs.Witnessed.{witnessed_reply, IsWitnessed}
use Rattle.sv_witness.specs.Disputes.{disputes_of, NamesClient}
use Rattle.law_system.specs.Served.{no_client}
use Rattle.sv_witness.specs.Lies.{lied}

-- What the server hears of what a session asks: where the liar joined it, each Done is a lie.
abbrev pub heard_of : Option ℕ → List Entry → ℕ → Request → Request
heard_of None h s request = request
heard_of (Some liar) h s request = if is_client (client_of h s) liar then lied request else request

abbrev pub witness_of : Rules → Option ℕ → Server
witness_of r liar = record { hears = heard_of liar; answers = λ h s request. witnessed_reply r h s (heard_of liar h s request) }

abbrev pub witnessed_run : Scenario → Option ℕ → Run
witnessed_run scenario liar = run_served (witness_of (rules_of scenario) liar) scenario

-- The number of the liar, that of no client where none lies.
abbrev pub liar_of : Option ℕ → ℕ
liar_of None = no_client
liar_of (Some liar) = liar

-- The journal and the traces are those of the scenario's witnessed run. The journal is legal, the committed world is the serial one at the
-- commit, each dispute names the liar, and where none lies there is no dispute. Each session has just one End, and each client did all of its
-- script, the liar too.
pub record IsWitnessedRun (scenario : Scenario) (liar : Option ℕ) (h : List Entry) (Ls : List Trace) : Type 0 where
  pub journal : h ≡ (witnessed_run scenario liar).history
  pub traces : Ls ≡ traces_of (witnessed_run scenario liar)
  pub legal : IsWitnessed (rules_of scenario) h
  pub world : agreed_world scenario.world.values h ≡ serial_world scenario.world.values (actions_of h) (agreed_commit h)
  pub disputes : All (NamesClient (liar_of liar)) (disputes_of h)
  pub calm : liar ≡ None → disputes_of h ≡ []
  pub ended : (s : ℕ) → s < session_count scenario → ends_in h s ≡ 1
  pub scripts : ScriptsAreDone scenario.world.shape scenario.clients Ls
