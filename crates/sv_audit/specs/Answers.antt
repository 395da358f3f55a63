-- What the call answers, by its status. `contents` says what a file holds, where that is told, and `is_sure` which file is sure to be read.
use Rattle.std.specs.Prelude.{◌≡◌, ◌≢◌, ◌↔◌, ◌⊎◌, ◌<◌, ◌≤◌, ℕ, List, length, Option, Some, None, IfSome}
use Rattle.sv_ending.specs.Calls.{Leaves, Moment}
use Rattle.sv_ending.specs.Reading.{HoldsScenario, held_by_file}
use Rattle.sv_ending.specs.Statuses.{NoneRose, TellsFaults}
use Rattle.sv_audit.specs.Judging.{IsText, report_size}
use Rattle.sv_audit.specs.Statuses.{HasWrong, IsPlaceOutside, IsReportRead, TellsStatus}
use Rattle.sv_audit.specs.Words.{Asked, Question, scenario_named}

-- The text answers what is asked, and where nothing is there is none.
abbrev pub IsTextFor : Option Asked → (List ℕ → Option (List ℕ)) → List ℕ → Type 0
IsTextFor (Some asked) contents = IsText (contents asked.scenario) (contents asked.report) asked.question
IsTextFor None contents = λ text. ⊥

-- What is said of the report, where `held` is what the scenario's file holds and `told` what the report's does: that it has a wrong line, at 9,
-- and that the run has no such place, at 10.
pub record Judges (held told : Option (List ℕ)) (question : Question) (status : ℕ) : Type 0 where
  pub wrong : status ≡ 9 → HasWrong held told
  pub outside : status ≡ 10 → IsPlaceOutside held told question
  -- where the report is told to have too many bytes
  pub long : IfSome told (λ all. report_size < length all → (status ≡ 3) ⊎ (status ≡ 4) ⊎ (status ≡ 8) ⊎ (status ≡ 9))

module _ (asked : Option Asked) (contents : List ℕ → Option (List ℕ)) where
  -- what the scenario's file holds
  abbrev pub held : Option (List ℕ)
  held = held_by_file contents (scenario_named asked)

  -- `words_line` tells which words there are, and `rest` is what is left of the file that was read last.
  pub record Answers (is_sure : List ℕ → Type 0) (words_line : List ℕ) (rest : Option (List ℕ)) (before now : Moment) (status : ℕ) : Type 0 where
    pub range : (status ≡ 0) ⊎ ((2 ≤ status) × (status ≤ 5)) ⊎ ((8 ≤ status) × (status ≤ 10))
    pub words : (status ≡ 2) ↔ (asked ≡ None)
    pub faults : TellsFaults status before.faults now.faults
    pub sure : IfSome asked (λ a. is_sure a.scenario → is_sure a.report → status ≢ 4)
    -- The report is read before anything is said of the scenario or of it.
    pub read : status ≢ 2 → status ≢ 4 → status ≢ 8 → IfSome asked (λ a. IsReportRead (contents a.report) rest)
    pub left : Leaves (IsTextFor asked contents) held before.out now.out status
    pub judged : IfSome asked (λ a. Judges (contents a.scenario) (contents a.report) a.question status)
    pub told : TellsStatus is_sure contents words_line asked status before.err now.err before.err_faults now.err_faults
    -- Where nothing failed a scenario is gone by, and the report is answered for, is wrong or has no such place, or memory ran out.
    pub complete : HoldsScenario held → NoneRose before.faults now.faults → (status ≡ 0) ⊎ ((8 ≤ status) × (status ≤ 10))
