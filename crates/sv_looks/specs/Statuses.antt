-- What a text of the call tells, and what an ending without one says.
-- A journal `h` has its latest entry first.
use Rattle.std.specs.Prelude.{◌≡◌, ℕ, List, Option, All, string_bytes}
use Rattle.sv_journal.specs.declared.entry.Entry.{Entry}
use Rattle.sv_journal.specs.History.{actions_of}
use Rattle.sv_client.specs.declared.trace.Trace.{Trace}
use Rattle.sv_scenario.specs.declared.scenario.Scenario.{Scenario}
use Rattle.law_schedule.specs.Records.{IsReplay}
use Rattle.sv_ending.specs.declared.ending.Ending.{Ending}
use Rattle.sv_ending.specs.declared.ending.Ending.TheVariants as endings
use Rattle.sv_ending.specs.Reading.{IsRead, IsRefused}
use Rattle.sv_looks.specs.Snapshots.{snapshots_of}
use Rattle.sv_looks.specs.Cuts.{IsCut}
use Rattle.sv_looks.specs.Lines.{looks_text}

-- ---- The text

-- The text has just the lines of the snapshots of the run that the schedule of the file's scenario gives, in order; and each of them is one
-- cut through the run's serial execution.
pub record IsText (held : Option (List ℕ)) (text : List ℕ) : Type 0 where
  pub scenario : Scenario
  pub h : List Entry
  pub Ls : List Trace
  pub scenario_is : IsRead held scenario
  pub replay : IsReplay scenario h Ls
  pub cuts : All (IsCut scenario.world.values (actions_of h)) (snapshots_of scenario.world.shape Ls)
  pub text_is : text ≡ looks_text scenario.world.shape Ls

-- ---- Endings

-- An ending without a text. No thread is started and no connection is made, so none can fail; and nothing is asked for by a number.
abbrev pub EndsEarly : Option (List ℕ) → Ending → Type 0
EndsEarly held (endings.Scenario line) = IsRefused held (string_bytes line)
EndsEarly held endings.File = Unit {0}
EndsEarly held endings.Memory = Unit {0}
EndsEarly held _ = ⊥
