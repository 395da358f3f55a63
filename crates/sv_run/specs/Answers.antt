-- What `run` answers, by its status. `contents` says what a file holds, where that is told, and `is_sure` which file is sure to be read. `m` is what
-- was settled of the net's pairs and ran.
use Rattle.std.specs.Prelude.{◌≡◌, ◌≢◌, ◌↔◌, ◌⊎◌, ◌≤◌, ℕ, List, Option, None, IfSome}
use Rattle.sv_link.specs.Nets.{Transcript}
use Rattle.sv_ending.specs.Calls.{Leaves, Moment}
use Rattle.sv_ending.specs.Reading.{held_by_file}
use Rattle.sv_ending.specs.Statuses.{NoneRose, TellsFaults, TellsStatus}
use Rattle.sv_threads.specs.Moved.{Moved}
use Rattle.sv_threads.specs.Pairs.{Pairing, SomeDiffered}
use Rattle.sv_run.specs.Runs.{IsTextFor}
use Rattle.sv_run.specs.Statuses.{CanRun, SettlesPairs}
use Rattle.sv_run.specs.Words.{Asked, named_by, words_line}

module _ (asked : Option Asked) (contents : List ℕ → Option (List ℕ)) where
  -- what the file that is named holds
  abbrev pub held : Option (List ℕ)
  held = held_by_file contents (named_by asked)

  pub record Answers (is_sure : List ℕ → Type 0) (m : Moved Transcript) (before now : Moment) (status : ℕ) : Type 0 where
    pub range : (status ≡ 0) ⊎ ((2 ≤ status) × (status ≤ 8))
    pub words : (status ≡ 2) ↔ (asked ≡ None)
    pub faults : TellsFaults status before.faults now.faults
    pub sure : IfSome (named_by asked) (λ file. is_sure file → status ≢ 4)
    pub left : Leaves (IsTextFor asked held m) held before.out now.out status
    pub told : TellsStatus words_line status held (named_by asked) before.err now.err before.err_faults now.err_faults
    -- What can be run and for which nothing failed is run, or memory ran out.
    pub complete : CanRun asked held → NoneRose before.faults now.faults → (status ≡ 0) ⊎ (status ≡ 8)

-- What became of the net's pairs.
pub record LeavesNet (is_calm : Type 0) (old new : Pairing) (status : ℕ) : Type 0 where
  pub pairs : SettlesPairs status old new
  -- where the net does not fail of itself
  pub calm : is_calm → status ≡ 6 → SomeDiffered old new
