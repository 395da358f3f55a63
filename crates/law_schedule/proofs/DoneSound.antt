-- Each phase of a round keeps runs sound.
use Rattle.sv_scenario.specs.declared.scenario.Scenario.{Scenario}
use Rattle.sv_scenario.specs.Limits.{IsGoodScenario}
use Rattle.law_schedule.specs.Serving.{Server}
use Rattle.law_schedule.specs.Served.{KeepsSound}
use Rattle.law_schedule.proofs.SoundLaws.{opening-sound, turns-sound, clients-sound, sessions-sound, takes-sound}
use Rattle.law_schedule.proofs.DoneGiven.{StaySound}

pub stay-sound : (server : Server) → KeepsSound server → (scenario : Scenario) → IsGoodScenario scenario → StaySound server scenario
stay-sound server keeps scenario good = record {
  hears = keeps.ends;
  opening = opening-sound server scenario good;
  turns = turns-sound server keeps scenario good;
  clients = clients-sound server keeps scenario good;
  sessions = sessions-sound server keeps scenario good;
  takes = takes-sound server keeps scenario good;
}
