-- What the top calls of the program say in one way. Each is asked for something by its words, and answers a status; its own crate says what it is
-- asked for, and what a text of it tells.
use Rattle.std.specs.Prelude.{◌≡◌, ◌≢◌, ◌⊎◌, ℕ, List, take, Option, IfSome}
use Rattle.sv_ending.specs.Endings.{IsCutShort, IsPrinted}
use Rattle.sv_ending.specs.Reading.{read_limit, IsNoScenario}
use Rattle.sv_ending.specs.Statuses.{Counts}

-- What is told at one moment of what a call is handed: how often each failed, what the output and the sink beside it were given, where that is
-- told, and how often that sink failed.
pub record Moment : Type 0 where
  pub faults : Counts
  pub out : Option (List ℕ)
  pub err : Option (List ℕ)
  pub err_faults : ℕ

abbrev pub moment : Counts → Option (List ℕ) → Option (List ℕ) → ℕ → Moment
moment faults out err err_faults = record { faults = faults; out = out; err = err; err_faults = err_faults }

-- What is left by the status, where `held` is what the scenario's file holds: a whole text is printed at 0, a front part of one at 5, and nothing
-- at any other.
pub record Leaves (IsText : List ℕ → Type 0) (held old now : Option (List ℕ)) (status : ℕ) : Type 0 where
  pub printed : status ≡ 0 → IsPrinted IsText old now
  pub part : status ≡ 5 → IsCutShort IsText old now
  pub nothing : status ≢ 0 → status ≢ 5 → now ≡ old
  -- where the file is told to hold no scenario
  pub faulty : IfSome held (λ all. IsNoScenario (take read_limit all) → (status ≡ 3) ⊎ (status ≡ 4) ⊎ (status ≡ 8))
