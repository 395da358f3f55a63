-- Scheduled runs end, and leave records.
use Rattle.law_system.proofs.NextReply.{scenario-no_fault}
use Rattle.sv_scenario.specs.declared.scenario.Scenario.{Scenario}
use Rattle.sv_scenario.specs.Limits.{IsGoodScenario}
use Rattle.law_schedule.specs.Schedule.{rules_of, plain_server, scheduled_run}
use Rattle.law_schedule.proofs.SoundPlain.{plain-keeps, run-plain}
use Rattle.law_schedule.proofs.DoneGiven.{StaySound}
use Rattle.law_schedule.proofs.DoneStill.{round-still}
use Rattle.law_schedule.proofs.DoneRecords.{served-done, served-ended, served-scripts, record-of}
use Rattle.law_schedule.proofs.DonePlain.{plain-taken}
use Rattle.law_schedule.proofs.DoneSound.{stay-sound}
use Rattle.law_schedule.proofs.done.scheduled_runs_end.Goals as goal

stays : (scenario : Scenario) → IsGoodScenario scenario → StaySound (plain_server (rules_of scenario)) scenario
stays scenario good = stay-sound (plain_server (rules_of scenario)) (plain-keeps (rules_of scenario)) scenario good

pub returns-clause-done : goal.returns-clause-done
returns-clause-done c = λ scenario good. served-done (plain_server (rules_of scenario)) scenario good (plain-taken scenario-no_fault scenario good) (stays scenario good)

pub returns-clause-traffic : goal.returns-clause-traffic
returns-clause-traffic c = λ scenario good.
    record-of scenario (scheduled_run scenario) (run-plain scenario good)
    (served-ended (plain_server (rules_of scenario)) scenario good (plain-taken scenario-no_fault scenario good) (stays scenario good))

pub returns-clause-scripts : goal.returns-clause-scripts
returns-clause-scripts c = λ scenario good. served-scripts (plain_server (rules_of scenario)) scenario good (plain-taken scenario-no_fault scenario good) (stays scenario good)

pub returns-clause-still : goal.returns-clause-still
returns-clause-still c = λ scenario run good sound done. round-still (plain_server (rules_of scenario)) scenario run done
