-- What a text of the call tells, and what an ending without one says.
-- A history is the list of a journal's entries with the latest first.
use Rattle.std.specs.Prelude.{◌≡◌, ℕ, ◌<◌, ◌≤◌, List, length, Option, Some, None, Ok, string_bytes, IfSome}
use Rattle.sv_journal.specs.declared.entry.Entry.{Entry}
use Rattle.sv_client.specs.declared.trace.Trace.{Trace}
use Rattle.sv_scenario.specs.declared.scenario.Scenario.{Scenario}
use Rattle.sv_scenario.specs.Scenarios.{scenario_of}
use Rattle.sv_ending.specs.declared.ending.Ending.{Ending}
use Rattle.sv_ending.specs.declared.ending.Ending.TheVariants as endings
use Rattle.sv_ending.specs.Reading.{IsRead, IsRefused}
use Rattle.sv_witness.specs.Run.{IsWitnessedRun}
use Rattle.sv_witness.specs.Lines.{witness_text}
use Rattle.sv_witness.specs.Words.{Asked}

-- ---- The text

-- The liar is one of so many clients, if there is one.
abbrev pub IsLiarWithin : ℕ → Option ℕ → Type 0
IsLiarWithin clients liar = IfSome liar (λ k. k < clients)

-- The text has the lines of the witnessed run that the scenario's schedule gives.
pub record IsRunText (scenario : Scenario) (liar : Option ℕ) (text : List ℕ) : Type 0 where
  pub h : List Entry
  pub Ls : List Trace
  pub run : IsWitnessedRun scenario liar h Ls
  pub text_is : text ≡ witness_text scenario.world h

-- It has those of the file's scenario, of which the liar is a client.
pub record IsText (asked : Asked) (held : Option (List ℕ)) (text : List ℕ) : Type 0 where
  pub scenario : Scenario
  pub read : IsRead held scenario
  pub within : IsLiarWithin (length scenario.clients) asked.liar
  pub run : IsRunText scenario asked.liar text

-- The liar is none of so many clients.
abbrev pub IsLiarOver : ℕ → Option ℕ → Type 0
IsLiarOver clients None = ⊥
IsLiarOver clients (Some k) = clients ≤ k

-- What was read of the file is a scenario that has no client of the liar's number.
pub record IsOutside (asked : Asked) (held : Option (List ℕ)) : Type 0 where
  pub scenario : Scenario
  pub read : IsRead held scenario
  pub over : IsLiarOver (length scenario.clients) asked.liar

-- The bytes are a scenario that has no client of the liar's number.
pub record LacksLiar (asked : Asked) (bytes : List ℕ) : Type 0 where
  pub scenario : Scenario
  pub read : scenario_of bytes ≡ Ok scenario
  pub over : IsLiarOver (length scenario.clients) asked.liar

-- ---- Endings

-- An ending without a text: no thread and no connection is told of.
abbrev pub EndsEarly : Asked → Option (List ℕ) → Ending → Type 0
EndsEarly asked held (endings.Scenario line) = IsRefused held (string_bytes line)
EndsEarly asked held endings.File = Unit {0}
EndsEarly asked held endings.Memory = Unit {0}
EndsEarly asked held endings.Range = IsOutside asked held
EndsEarly asked held _ = ⊥
