-- What the call answers, by its status. `contents` says what a file holds, where that is told, `is_sure` which file is sure to be read, and
-- `is_certain` at which port connections are sure to be made. `m` is what was given back of the door's ends and ran.
use Rattle.std.specs.Prelude.{◌≡◌, ◌≢◌, ◌↔◌, ◌⊎◌, ◌≤◌, ℕ, List, Option, None, IfSome}
use Rattle.sv_ending.specs.Calls.{Leaves, Moment}
use Rattle.sv_ending.specs.Reading.{HoldsScenario, held_by_file}
use Rattle.sv_ending.specs.Statuses.{NoneRose, TellsFaults, TellsStatus}
use Rattle.sv_threads.specs.Moved.{Moved}
use Rattle.sv_door.specs.Doors.{Passage}
use Rattle.sv_serve.specs.Statuses.{IsText}
use Rattle.sv_serve.specs.Words.{Asked, named_by, words_line}

module _ (asked : Option Asked) (contents : List ℕ → Option (List ℕ)) where
  -- what the file that is named holds
  abbrev pub held : Option (List ℕ)
  held = held_by_file contents (named_by asked)

  pub record Answers (is_sure : List ℕ → Type 0) (is_certain : ℕ → Type 0) (m : Moved Passage) (before now : Moment) (status : ℕ) : Type 0 where
    pub range : (status ≡ 0) ⊎ ((2 ≤ status) × (status ≤ 8))
    pub words : (status ≡ 2) ↔ (asked ≡ None)
    pub faults : TellsFaults status before.faults now.faults
    pub sure : IfSome (named_by asked) (λ file. is_sure file → status ≢ 4)
    pub certain : IfSome asked (λ a. is_certain a.port → status ≢ 6)
    pub left : Leaves (IsText held m) held before.out now.out status
    pub told : TellsStatus words_line status held (named_by asked) before.err now.err before.err_faults now.err_faults
    -- A scenario for which nothing failed is served, or memory ran out.
    pub complete : HoldsScenario held → NoneRose before.faults now.faults → (status ≡ 0) ⊎ (status ≡ 8)
