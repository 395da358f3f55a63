-- Where the reading of a text stops.
use Rattle.std.specs.Prelude.{◌≡◌, ℕ, List, ◌++◌, length, reverse, Result, Err}
use Rattle.sv_lines.specs.declared.stop.LineStop.{LineStop}
use Rattle.sv_lines.specs.declared.stop.LineStop.TheVariants as stop
use Rattle.sv_journal.specs.declared.entry.Entry.{Entry}
use Rattle.sv_journal.specs.Text.{journal_text}
use Rattle.sv_scenario.specs.declared.scenario.Scenario.{Scenario}
use Rattle.sv_check.specs.Consistent.{IsReport}
use Rattle.sv_check.specs.Either.{IsRight, IsPart}
use Rattle.sv_check.specs.Parts.{IsReportPart, IsWholeJournal}
use Rattle.sv_check.specs.Wrong.{IsWrongNext}

-- Of texts of a kind, with their parts: all but the last `left` bytes are a part, and the line with which these begin is wrong.
pub record IsStopOf (Part Whole : List ℕ → Type 0) (text : List ℕ) (left : ℕ) : Type 0 where
  pub before : List ℕ
  pub rest : List ℕ
  pub split : text ≡ before ++ rest
  pub left_is : left ≡ length rest
  pub part : Part before
  pub wrong : IsWrongNext Part Whole before rest
  pub none : Whole text → ⊥

-- The text is read as a report.
abbrev pub IsStop : Scenario → List ℕ → ℕ → Type 0
IsStop scenario = IsStopOf (IsReportPart scenario) (IsReport scenario)

-- The text is read as one of either kind.
abbrev pub IsTextStop : Scenario → List ℕ → ℕ → Type 0
IsTextStop scenario = IsStopOf (IsPart scenario) (IsRight scenario)

-- The text begins with no whole journal.
abbrev pub NoWholeJournal : Scenario → List ℕ → Type 0
NoWholeJournal scenario text = (h : List Entry) (behind : List ℕ) → IsWholeJournal scenario h → text ≡ journal_text scenario.world.shape (reverse h) ++ behind → ⊥

-- The text is read as a report, and stops within its journal.
pub record IsJournalStop (scenario : Scenario) (text : List ℕ) (left : ℕ) : Type 0 where
  pub stop : IsStop scenario text left
  pub none : NoWholeJournal scenario text

-- What is said of the place where a line was wrong; nothing is said where all was taken, or memory ran out.
abbrev pub IfWrong : {A : Type 0} → Result A LineStop → (ℕ → Type 0) → Type 0
IfWrong (Err (stop.Wrong left)) P = P left
IfWrong _ P = Unit {0}
