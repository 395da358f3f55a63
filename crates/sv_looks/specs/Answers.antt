-- What the call answers, by its status. `contents` says what a file holds, where that is told, and `is_sure` which file is sure to be read.
use Rattle.std.specs.Prelude.{◌≡◌, ◌≢◌, ◌↔◌, ◌⊎◌, ◌≤◌, ℕ, List, Option, None, IfSome}
use Rattle.sv_ending.specs.Calls.{Leaves, Moment}
use Rattle.sv_ending.specs.Reading.{HoldsScenario, held_by_file}
use Rattle.sv_ending.specs.Statuses.{NoneRose, TellsFaults, TellsStatus}
use Rattle.sv_looks.specs.Statuses.{IsText}
use Rattle.sv_looks.specs.Words.{words_line}

module _ (asked : Option (List ℕ)) (contents : List ℕ → Option (List ℕ)) where
  -- what the file that is asked for holds
  abbrev pub held : Option (List ℕ)
  held = held_by_file contents asked

  pub record Answers (is_sure : List ℕ → Type 0) (before now : Moment) (status : ℕ) : Type 0 where
    pub range : (status ≡ 0) ⊎ ((2 ≤ status) × (status ≤ 5)) ⊎ (status ≡ 8)
    pub words : (status ≡ 2) ↔ (asked ≡ None)
    pub faults : TellsFaults status before.faults now.faults
    pub sure : IfSome asked (λ file. is_sure file → status ≢ 4)
    pub left : Leaves (IsText held) held before.out now.out status
    pub told : TellsStatus words_line status held asked before.err now.err before.err_faults now.err_faults
    -- A scenario for which nothing failed is run, or memory ran out.
    pub complete : HoldsScenario held → NoneRose before.faults now.faults → (status ≡ 0) ⊎ (status ≡ 8)
