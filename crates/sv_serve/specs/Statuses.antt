-- What a text of the call tells, what an ending without one says, and what else is left of it, by its status.
-- A journal `h` has its latest entry first.
use Rattle.std.specs.Prelude.{◌≡◌, ◌⊎◌, ℕ, ◌≤◌, List, ◌++◌, reverse, Option, codes, string_bytes}
use Rattle.std.specs.Fmt.{decimal}
use Rattle.sv_world.specs.declared.world.Shape.{Shape}
use Rattle.sv_journal.specs.declared.entry.Entry.{Entry}
use Rattle.sv_journal.specs.History.{commit_of}
use Rattle.sv_journal.specs.Text.{journal_text}
use Rattle.sv_scenario.specs.declared.scenario.Scenario.{Scenario}
use Rattle.sv_ending.specs.declared.ending.Ending.{Ending}
use Rattle.sv_ending.specs.declared.ending.Ending.TheVariants as endings
use Rattle.sv_ending.specs.Reading.{IsRead, IsRefused}
use Rattle.sv_threads.specs.Moved.{Moved}
use Rattle.sv_door.specs.Doors.{Passage}
use Rattle.sv_serve.specs.Giving.{Doorway, GaveBack, LostAll}
use Rattle.sv_serve.specs.Hosting.{IsHosted}

-- ---- The text

-- The journal part of the report, and the commit.
abbrev pub hosted_text : Shape → List Entry → List ℕ
hosted_text shape h = journal_text shape (reverse h) ++ codes "commit " ++ decimal (commit_of h) ++ codes "\n"

-- The text tells what was answered in the sessions of the file's scenario.
pub record IsText (held : Option (List ℕ)) (m : Moved Passage) (text : List ℕ) : Type 0 where
  pub scenario : Scenario
  pub h : List Entry
  pub scenario_is : IsRead held scenario
  pub hosted : IsHosted scenario h m
  pub text_is : text ≡ hosted_text scenario.world.shape h

-- ---- Endings

-- What was read of the file is a scenario.
pub record IsReady (held : Option (List ℕ)) : Type 0 where
  pub scenario : Scenario
  pub scenario_is : IsRead held scenario

-- An ending without a text. Threads and connections are only told of where there was a scenario to serve.
abbrev pub EndsEarly : Option (List ℕ) → Ending → Type 0
EndsEarly held (endings.Scenario line) = IsRefused held (string_bytes line)
EndsEarly held endings.File = Unit {0}
EndsEarly held endings.Start = IsReady held
EndsEarly held endings.Link = IsReady held
EndsEarly held endings.Memory = Unit {0}
EndsEarly held _ = ⊥

-- ---- What else is left

-- What is not touched: all three where the words are others, and the door and the crew where there is no scenario.
pub record LeavesAlone {F D C : Type 0} (status : ℕ) (f0 f1 : F) (d0 d1 : D) (c0 c1 : C) : Type 0 where
  pub files : status ≡ 2 → f1 ≡ f0
  pub door : (2 ≤ status) × (status ≤ 4) → d1 ≡ d0
  pub crew : (2 ≤ status) × (status ≤ 4) → c1 ≡ c0

-- Each end that was made was given back, but at 7: there a thread could not be started. At 6 no run of jobs is noted, so no session was served.
abbrev pub GivesBackBut : ℕ → List ℕ → List ℕ → Doorway → Doorway → Type 0
GivesBackBut status ran_before ran_now old new =
    (GaveBack ran_before ran_now old new × (status ≡ 6 → ran_now ≡ ran_before)) ⊎ ((status ≡ 7) × LostAll ran_before ran_now old new)
