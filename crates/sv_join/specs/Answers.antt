-- What the call answers, by its status. `contents` says what a file holds, where that is told, `is_sure` which file is sure to be read, and
-- `is_certain` at which port a connection is sure to be made. `door` is what the door's ends told.
use Rattle.std.specs.Prelude.{◌≡◌, ◌≢◌, ◌↔◌, ◌⊎◌, ◌≤◌, ℕ, List, take, Option, Some, None, IfSome}
use Rattle.sv_link.specs.Ends.{Told}
use Rattle.sv_ending.specs.Calls.{Leaves, Moment}
use Rattle.sv_ending.specs.Reading.{HoldsScenario, held_by_file, read_limit}
use Rattle.sv_ending.specs.Statuses.{NoneRose}
use Rattle.sv_join.specs.Joining.{Passed}
use Rattle.sv_join.specs.Statuses.{IsLost, IsOutside, IsShutOut, IsText, LacksClient, TellsJoinFaults, TellsStatus}
use Rattle.sv_join.specs.Words.{Asked, named_by}

-- Status 10 says that the scenario has no client of the number.
pub record TellsNumber (asked : Asked) (held : Option (List ℕ)) (status : ℕ) : Type 0 where
  pub outside : status ≡ 10 → IsOutside held asked.number
  -- where the file is told to hold a scenario without the client
  pub lacking : IfSome held (λ all. LacksClient asked.number (take read_limit all) → (status ≡ 4) ⊎ (status ≡ 8) ⊎ (status ≡ 10))

module _ {E : Type 0} (end_told : E → Told) (end_faults : E → ℕ) (is_calm : E → Type 0) where
  -- The text tells the play where one is asked for, and else there is none.
  abbrev pub IsTextFor : Option Asked → Option (List ℕ) → Passed → List ℕ → Type 0
  IsTextFor (Some asked) held door = IsText end_told end_faults is_calm asked held door
  IsTextFor None held door = λ text. ⊥

  -- Statuses 6 and 12 say that the play was cut off: an end failed, or told that no more will come. `before` and `now` are the door's faults.
  pub record TellsPlay (asked : Asked) (held : Option (List ℕ)) (door : Passed) (before now : ℕ) (status : ℕ) : Type 0 where
    pub lost : status ≡ 6 → IsLost end_told end_faults is_calm asked held door before now
    pub shut_out : status ≡ 12 → IsShutOut end_told end_faults is_calm asked held door

  module _ (asked : Option Asked) (contents : List ℕ → Option (List ℕ)) where
    -- what the file that is named holds
    abbrev pub held : Option (List ℕ)
    held = held_by_file contents (named_by asked)

    pub record Answers (is_sure : List ℕ → Type 0) (is_certain : ℕ → Type 0) (door : Passed) (before now : Moment) (status : ℕ) : Type 0 where
      pub range : (status ≡ 0) ⊎ ((2 ≤ status) × (status ≤ 6)) ⊎ (status ≡ 8) ⊎ ((10 ≤ status) × (status ≤ 12))
      pub words : (status ≡ 2) ↔ (asked ≡ None)
      pub faults : TellsJoinFaults status before.faults now.faults
      pub sure : IfSome (named_by asked) (λ file. is_sure file → status ≢ 4)
      pub certain : IfSome asked (λ a. is_certain a.port → status ≢ 6)
      pub left : Leaves (IsTextFor asked held door) held before.out now.out status
      pub number : IfSome asked (λ a. TellsNumber a (contents a.file) status)
      pub play : IfSome asked (λ a. TellsPlay a (contents a.file) door before.faults.net now.faults.net status)
      pub told : TellsStatus end_told end_faults is_calm asked held (named_by asked) door status before.err now.err before.err_faults now.err_faults
      -- A scenario for which nothing failed is played to its end, or it has no such client, or the server did not go along, or memory ran out.
      pub complete : HoldsScenario held → NoneRose before.faults now.faults → (status ≡ 0) ⊎ (status ≡ 6) ⊎ (status ≡ 8) ⊎ ((10 ≤ status) × (status ≤ 12))
