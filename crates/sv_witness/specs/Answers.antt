-- What the call answers, by its status. `contents` says what a file holds, where that is told, and `is_sure` which file is sure to be read.
use Rattle.std.specs.Prelude.{◌≡◌, ◌≢◌, ◌↔◌, ◌⊎◌, ◌≤◌, ℕ, List, take, Option, Some, None, IfSome}
use Rattle.sv_ending.specs.Calls.{Leaves, Moment}
use Rattle.sv_ending.specs.Reading.{HoldsScenario, held_by_file, read_limit}
use Rattle.sv_ending.specs.Statuses.{NoneRose, TellsFaults, TellsStatus}
use Rattle.sv_witness.specs.Statuses.{IsOutside, IsText, LacksLiar}
use Rattle.sv_witness.specs.Words.{Asked, named_by, words_line}

-- The text tells the run where one is asked for, and else there is none.
abbrev pub IsTextFor : Option Asked → Option (List ℕ) → List ℕ → Type 0
IsTextFor (Some asked) held = IsText asked held
IsTextFor None held = λ text. ⊥

-- Status 10 says that the scenario has no client of the liar's number.
pub record TellsNumber (asked : Asked) (held : Option (List ℕ)) (status : ℕ) : Type 0 where
  pub outside : status ≡ 10 → IsOutside asked held
  -- where the file is told to hold a scenario without the liar
  pub lacking : IfSome held (λ all. LacksLiar asked (take read_limit all) → (status ≡ 4) ⊎ (status ≡ 8) ⊎ (status ≡ 10))

module _ (asked : Option Asked) (contents : List ℕ → Option (List ℕ)) where
  -- what the file that is named holds
  abbrev pub held : Option (List ℕ)
  held = held_by_file contents (named_by asked)

  pub record Answers (is_sure : List ℕ → Type 0) (before now : Moment) (status : ℕ) : Type 0 where
    pub range : (status ≡ 0) ⊎ ((2 ≤ status) × (status ≤ 5)) ⊎ (status ≡ 8) ⊎ (status ≡ 10)
    pub words : (status ≡ 2) ↔ (asked ≡ None)
    pub faults : TellsFaults status before.faults now.faults
    pub sure : IfSome (named_by asked) (λ file. is_sure file → status ≢ 4)
    pub left : Leaves (IsTextFor asked held) held before.out now.out status
    pub number : IfSome asked (λ a. TellsNumber a (contents a.file) status)
    pub told : TellsStatus words_line status held (named_by asked) before.err now.err before.err_faults now.err_faults
    -- A scenario for which nothing failed is run, or it has no such client, or memory ran out.
    pub complete : HoldsScenario held → NoneRose before.faults now.faults → (status ≡ 0) ⊎ (status ≡ 8) ⊎ (status ≡ 10)
