-- What the words that the call is given ask for.
use Rattle.std.specs.Prelude.{ℕ, ◌-◌, ◌^◌, List, [], ◌∷◌, Option, Some, None, option_map, codes, if◌then◌else◌}
use Rattle.std.specs.Str.{bytes_eq}
use Rattle.sv_world.specs.Limits.{most_objects}
use Rattle.sv_ending.specs.Numbers.{number_between}
use Rattle.sv_audit.specs.declared.words.Audit.{Audit}
use Rattle.sv_audit.specs.declared.words.ObjectAtPosition.{ObjectAtPosition}
use Rattle.sv_audit.specs.declared.words.Question.{Question as Asks}
use Rattle.sv_audit.specs.declared.words.Question.TheVariants as asks

-- An object, and a position.
pub record Asking : Type 0 where
  pub object : ℕ
  pub pos : ℕ

-- What is asked of a report: whether it is right, the world at its end, or why an object has its value at a position.
pub data Question : Type 0 where
  Right : Question
  World : Question
  Why : Asking → Question

-- What is asked for, of a scenario and a report.
pub record Asked : Type 0 where
  pub scenario : List ℕ
  pub report : List ℕ
  pub question : Question

abbrev pub place_by : ObjectAtPosition → Asking
place_by place = record { object = place.object.0; pos = place.pos }

abbrev pub question_by : Asks → Question
question_by asks.Right = Right
question_by asks.World = World
question_by (asks.Why place) = Why (place_by place)

abbrev pub asked_by : Audit → Asked
asked_by audit = record { scenario = audit.scenario.now; report = audit.report.now; question = question_by audit.question }

abbrev pub place_if : Option ℕ → Option ℕ → Option Asking
place_if (Some object) (Some pos) = Some (record { object = object; pos = pos })
place_if _ _ = None

abbrev pub asked_if : Option Question → List ℕ → List ℕ → Option Asked
asked_if (Some question) scenario report = Some (record { scenario = scenario; report = report; question = question })
asked_if None scenario report = None

abbrev pub why_if : List ℕ → List ℕ → Option Asking → Option Asked
why_if scenario report place = asked_if (option_map Why place) scenario report

-- The questions that need no place.
abbrev pub plain_question : List ℕ → Option Question
plain_question word = if bytes_eq word (codes "check") then Some Right else (if bytes_eq word (codes "world") then Some World else None)

-- `check SCENARIO REPORT`, `world SCENARIO REPORT`, or `why SCENARIO REPORT OBJECT POSITION`, where OBJECT is at most 65,535 and POSITION at most
-- 4,294,967,295. All other words ask for nothing.
abbrev pub asked_of : List (List ℕ) → Option Asked
asked_of (word ∷ scenario ∷ report ∷ []) = asked_if (plain_question word) scenario report
asked_of (word ∷ scenario ∷ report ∷ object ∷ pos ∷ []) = if bytes_eq word (codes "why")
    then why_if scenario report (place_if (number_between 0 most_objects object) (number_between 0 (2 ^ 32 - 1) pos)) else None
asked_of _ = None

abbrev pub scenario_named : Option Asked → Option (List ℕ)
scenario_named asked = option_map (λ (a : Asked). a.scenario) asked

abbrev pub report_named : Option Asked → Option (List ℕ)
report_named asked = option_map (λ (a : Asked). a.report) asked

-- The line that tells which words the first word goes with. All but `why` and `world` are told those of `check`.
abbrev pub line_for : List ℕ → List ℕ
line_for word = if bytes_eq word (codes "why") then codes "words: why SCENARIO REPORT OBJECT POSITION\n"
    else (if bytes_eq word (codes "world") then codes "words: world SCENARIO REPORT\n" else codes "words: check SCENARIO REPORT\n")

abbrev pub words_line : List (List ℕ) → List ℕ
words_line [] = codes "words: check SCENARIO REPORT\n"
words_line (word ∷ words) = line_for word
