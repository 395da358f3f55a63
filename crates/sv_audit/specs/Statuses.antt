-- How a call ends, and what each status says. `held` is what the scenario's file holds and `told` what the report's does, where that is told.
use Rattle.std.specs.Prelude.{◌≡◌, ◌≢◌, ◌⊎◌, ℕ, Bool, true, false, List, [], ◌++◌, drop, Option, Some, None, codes, unwrap_or, Result, Ok, Err, string_bytes, IfSome}
use Rattle.std.specs.Fmt.{decimal}
use Rattle.sv_bytes.specs.Writing.{GrewOrRose}
use Rattle.sv_ending.specs.declared.ending.Ending.TheVariants as plain
use Rattle.sv_ending.specs.Endings.{Ends as PlainEnds}
use Rattle.sv_ending.specs.Lines.{file_line}
use Rattle.sv_ending.specs.Reading.{IsRefused}
use Rattle.sv_ending.specs.Statuses.{Counts, IsUnread, Raises as PlainRaises, status_of as plain_status, ending_line, status_line}
use Rattle.sv_audit.specs.declared.ending.AuditEnding.{AuditEnding}
use Rattle.sv_audit.specs.declared.ending.AuditEnding.TheVariants as endings
use Rattle.sv_audit.specs.Judging.{IsText, IsWrong, IsOutside, report_limit}
use Rattle.sv_audit.specs.Words.{Asked, Question, Why, scenario_named, report_named}

-- ---- Endings

abbrev pub status_of : AuditEnding → ℕ
status_of (endings.Plain ending) = plain_status ending
status_of endings.Report = 4
status_of (endings.Wrong line) = 9

-- what a part of a call ends with
abbrev pub ending_of : {A : Type 0} → Result A AuditEnding → AuditEnding
ending_of (Ok made) = endings.Plain plain.Done
ending_of (Err ending) = ending

-- ---- Faults

-- The count of what the ending tells of rose, and no other.
abbrev pub Raises : Counts → Counts → AuditEnding → Type 0
Raises before now (endings.Plain ending) = PlainRaises before now ending
Raises before now endings.Report = PlainRaises before now plain.File
Raises before now _ = now ≡ before

-- Not both were read: one of the files can't be, or memory ran out; for private clauses.
abbrev pub AreUnread : AuditEnding → Type 0
AreUnread (endings.Plain ending) = IsUnread ending
AreUnread endings.Report = Unit {0}
AreUnread (endings.Wrong line) = ⊥

-- ---- What was read

-- The report was the file that was read last, up to its end or to a byte more than one may have: just the rest of it is left.
abbrev pub IsReportRead : (told left : Option (List ℕ)) → Type 0
IsReportRead (Some all) left = left ≡ Some (drop report_limit all)
IsReportRead None left = left ≡ None

-- The ending comes of what was read of both files.
abbrev pub is_of_both : AuditEnding → Bool
is_of_both (endings.Plain plain.Words) = false
is_of_both (endings.Plain plain.File) = false
is_of_both (endings.Plain plain.Memory) = false
is_of_both (endings.Plain _) = true
is_of_both endings.Report = false
is_of_both (endings.Wrong line) = true

-- ---- What is left

-- The run has no such place, where one is asked for.
abbrev pub IsPlaceOutside : Option (List ℕ) → Option (List ℕ) → Question → Type 0
IsPlaceOutside held told (Why place) = IsOutside held told place
IsPlaceOutside held told _ = ⊥

-- an ending without a text
abbrev pub EndsEarly : (held told : Option (List ℕ)) → Question → AuditEnding → Type 0
EndsEarly held told question (endings.Plain (plain.Scenario line)) = IsRefused held (string_bytes line)
EndsEarly held told question (endings.Plain plain.File) = Unit {0}
EndsEarly held told question (endings.Plain plain.Memory) = Unit {0}
EndsEarly held told question (endings.Plain plain.Range) = IsPlaceOutside held told question
EndsEarly held told question (endings.Plain _) = ⊥
EndsEarly held told question endings.Report = Unit {0}
EndsEarly held told question (endings.Wrong line) = IsWrong held told line

-- what is left of a call, by its ending
abbrev pub Ends : (held told : Option (List ℕ)) → Question → (old new : Option (List ℕ)) → AuditEnding → Type 0
Ends held told question old new (endings.Plain ending) = PlainEnds (IsText held told question) (λ e. EndsEarly held told question (endings.Plain e)) old new ending
Ends held told question old new ending = EndsEarly held told question ending × (new ≡ old)

-- Some line is told as wrong.
pub record HasWrong (held told : Option (List ℕ)) : Type 0 where
  pub number : ℕ
  pub wrong : IsWrong held told number

-- ---- The line beside the output

abbrev pub wrong_line : ℕ → List ℕ
wrong_line number = codes "wrong line " ++ decimal number ++ codes "\n"

-- The line that tells of an ending, by the line that tells which words the call knows.
abbrev pub audit_line : List ℕ → Option Asked → AuditEnding → List ℕ
audit_line words_line asked (endings.Plain ending) = ending_line words_line ending (scenario_named asked)
audit_line words_line asked endings.Report = file_line (unwrap_or (report_named asked) [])
audit_line words_line asked (endings.Wrong line) = wrong_line line

-- The line names one of the two files, and not one that is sure to be read.
pub record NamesUnread (sure : List ℕ → Type 0) (asked : Asked) (line : List ℕ) : Type 0 where
  pub one_of : (line ≡ file_line asked.scenario) ⊎ (line ≡ file_line asked.report)
  pub unsure_scenario : sure asked.scenario → line ≡ file_line asked.report
  pub unsure_report : sure asked.report → line ≡ file_line asked.scenario

-- The line tells of a wrong line, which is the report's first.
pub record TellsWrong (held told : Option (List ℕ)) (line : List ℕ) : Type 0 where
  pub number : ℕ
  pub wrong : IsWrong held told number
  pub line_is : line ≡ wrong_line number

-- The sink was given just the line of the status.
pub record TellsStatus (sure : List ℕ → Type 0) (contents : List ℕ → Option (List ℕ)) (words_line : List ℕ) (asked : Option Asked) (status : ℕ) (old new : Option (List ℕ)) (before after : ℕ) : Type 0 where
  pub line : List ℕ
  pub faulty : status ≡ 3 → IfSome asked (λ (a : Asked). IsRefused (contents a.scenario) line)
  pub unread : status ≡ 4 → IfSome asked (λ (a : Asked). NamesUnread sure a line)
  pub wrong : status ≡ 9 → IfSome asked (λ (a : Asked). TellsWrong (contents a.scenario) (contents a.report) line)
  pub plain_is : status ≢ 3 → status ≢ 4 → status ≢ 9 → line ≡ status_line words_line status (scenario_named asked)
  pub told_is : GrewOrRose old new before after line
