-- What was read of the two files, and how the report was judged.
use Rattle.std.specs.Prelude.{◌≡◌, ◌⊎◌, ℕ, ◌+◌, ◌<◌, ◌≤◌, ℤ, List, length, reverse, take, Option, Some, None, codes, Result, Ok, Err, String, string_bytes}
use Rattle.std.specs.declared.alloc.Global.{Global}
use Rattle.sv_scenario.specs.declared.scenario.Scenario.{Scenario}
use Rattle.law_system.specs.declared.played.Played.{Played}
use Rattle.sv_journal.specs.declared.entry.Entry.{Entry}
use Rattle.sv_report.specs.Report.{world_text}
use Rattle.sv_journal.specs.History.{accepted, actions_of}
use Rattle.sv_ending.specs.declared.ending.Ending.TheVariants as plain
use Rattle.sv_ending.specs.Reading.{IsRead}
use Rattle.sv_check.specs.Either.{IsRightOf}
use Rattle.sv_check.specs.Wrong.{IsFirstWrong}
use Rattle.sv_why.specs.Reasons.{Explains, end_world}
use Rattle.sv_audit.specs.declared.ending.AuditEnding.{AuditEnding}
use Rattle.sv_audit.specs.declared.ending.AuditEnding.TheVariants as endings
use Rattle.sv_audit.specs.Texts.{why_text}
use Rattle.sv_audit.specs.Words.{Asking, Question, Right, World, Why}

-- The most bytes that a report may have.
abbrev pub report_size : ℕ
report_size = 67108864

-- A report is read so far and no further: one byte more than it may have.
abbrev pub report_limit : ℕ
report_limit = report_size + 1

-- The bytes that were read of the report, by what its file holds, where that is told.
abbrev pub IsReportFront : Option (List ℕ) → List ℕ → Type 0
IsReportFront (Some all) bytes = bytes ≡ take report_limit all
IsReportFront None bytes = Unit {0}

-- What was read of the two files is this scenario, and these bytes of a report.
pub record AreRead (held told : Option (List ℕ)) (scenario : Scenario) (bytes : List ℕ) : Type 0 where
  pub scenario_is : IsRead held scenario
  pub report_is : IsReportFront told bytes

-- The report is right, and tells this: a consistent run of the scenario, or the journal of a served one.
pub record IsApproved (held told : Option (List ℕ)) (scenario : Scenario) (played : Played) : Type 0 where
  pub bytes : List ℕ
  pub are_read : AreRead held told scenario bytes
  pub short : length bytes ≤ report_size
  pub report : IsRightOf scenario bytes played

-- The bytes are no right report of the scenario: there are too many, which is told as line 0, or this line is the first wrong one.
abbrev pub IsWrongIn : Scenario → List ℕ → ℕ → Type 0
IsWrongIn scenario bytes line = ((report_size < length bytes) × (line ≡ 0)) ⊎ ((length bytes ≤ report_size) × IsFirstWrong scenario bytes line)

-- The report is not right, and this is the line that is told.
pub record IsWrong (held told : Option (List ℕ)) (line : ℕ) : Type 0 where
  pub scenario : Scenario
  pub bytes : List ℕ
  pub are_read : AreRead held told scenario bytes
  pub cause : IsWrongIn scenario bytes line

-- The run has no such object, or has accepted no such position.
abbrev pub IsOver : Scenario → Played → Asking → Type 0
IsOver scenario played place = (scenario.world.shape.objects ≤ place.object) ⊎ (length (accepted (reverse played.journal.entries)) < place.pos)

-- The report is that of a run that has no such place.
pub record IsOutside (held told : Option (List ℕ)) (place : Asking) : Type 0 where
  pub scenario : Scenario
  pub played : Played
  pub approved : IsApproved held told scenario played
  pub over : IsOver scenario played place

-- The text tells why the object has its value at the position in the run.
pub record IsExplained (scenario : Scenario) (played : Played) (place : Asking) (text : List ℕ) : Type 0 where
  pub object : place.object < scenario.world.shape.objects
  pub pos : place.pos ≤ length (accepted (reverse played.journal.entries))
  pub positions : List ℕ
  pub value : List ℤ
  pub explains : Explains scenario.world.values (actions_of (reverse played.journal.entries)) place.object place.pos positions value
  pub text_is : text ≡ why_text (accepted (reverse played.journal.entries)) place.object positions value

-- The world after all accepted actions, with the last of their positions.
abbrev pub end_text : Scenario → List Entry → List ℕ
end_text scenario h = world_text (length (accepted h)) (end_world scenario.world.values (actions_of h))

abbrev pub IsAnswerText : Scenario → Played → Question → List ℕ → Type 0
IsAnswerText scenario played Right text = text ≡ codes "yes\n"
IsAnswerText scenario played World text = text ≡ end_text scenario (reverse played.journal.entries)
IsAnswerText scenario played (Why place) text = IsExplained scenario played place text

-- The report is right, and the text answers what is asked of it.
pub record IsText (held told : Option (List ℕ)) (question : Question) (text : List ℕ) : Type 0 where
  pub scenario : Scenario
  pub played : Played
  pub approved : IsApproved held told scenario played
  pub answer : IsAnswerText scenario played question text

-- ---- The parts of a call, for private clauses

-- the run that a report is of, or why there is none
abbrev pub IsJudged : Scenario → List ℕ → Result Played AuditEnding → Type 0
IsJudged scenario bytes (Ok played) = (length bytes ≤ report_size) × IsRightOf scenario bytes played
IsJudged scenario bytes (Err (endings.Wrong line)) = IsWrongIn scenario bytes line
IsJudged scenario bytes (Err (endings.Plain plain.Memory)) = Unit {0}
IsJudged scenario bytes (Err _) = ⊥

-- the run has no such place, where one is asked for
abbrev pub IsOverAt : Scenario → Played → Question → Type 0
IsOverAt scenario played (Why place) = IsOver scenario played place
IsOverAt scenario played _ = ⊥

-- the answer, or why there is none
abbrev pub AnswersOrEnds : Scenario → Played → Question → Result (String Global) AuditEnding → Type 0
AnswersOrEnds scenario played question (Ok text) = IsAnswerText scenario played question (string_bytes text)
AnswersOrEnds scenario played question (Err (endings.Plain plain.Range)) = IsOverAt scenario played question
AnswersOrEnds scenario played question (Err (endings.Plain plain.Memory)) = Unit {0}
AnswersOrEnds scenario played question (Err _) = ⊥
