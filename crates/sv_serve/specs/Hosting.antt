-- What is left of a scenario whose sessions were served, each over a connection of its own.
-- A history is the list of a journal's entries with the latest first.
use Rattle.std.specs.Prelude.{◌≡◌, ℕ, ◌<◌, List, [], ◌∷◌, ◌++◌, length, All}
use Rattle.sv_journal.specs.declared.entry.Entry.{Entry}
use Rattle.sv_journal.specs.Answer.{Legal}
use Rattle.sv_scenario.specs.declared.scenario.Scenario.{Scenario}
use Rattle.sv_scenario.specs.Sessions.{session_count}
use Rattle.law_system.specs.Records.{rules_of, ends_in}
use Rattle.law_system.specs.Places.{EachPlace}
use Rattle.sv_threads.specs.Moved.{Moved}
use Rattle.sv_door.specs.Doors.{Passage}
use Rattle.sv_serve.specs.Passages.{IsPassageOf}

-- The journal is legal for the scenario, of its sessions alone, and has just one End for each. The door was given back the end of each
-- session, in order, and the crew ran a job for each, all in one run.
pub record IsHosted (scenario : Scenario) (h : List Entry) (m : Moved Passage) : Type 0 where
  pub legal : Legal (rules_of scenario) h
  pub sessions : All (λ (e : Entry). e.session < session_count scenario) h
  pub ended : (s : ℕ) → s < session_count scenario → ends_in h s ≡ 1
  pub passages : List Passage
  pub given : m.kept_now ≡ m.kept_before ++ passages
  pub count : length passages ≡ session_count scenario
  pub each : EachPlace (IsPassageOf h) passages
  pub ran : m.ran_now ≡ m.ran_before ++ session_count scenario ∷ []
