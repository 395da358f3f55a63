-- How a call of the program ends, and what each status says.
use Rattle.std.specs.Prelude.{◌≡◌, ◌≢◌, ◌↔◌, ℕ, ◌==◌, List, [], Option, codes, if◌then◌else◌, unwrap_or}
use Rattle.std.specs.Prelude.{Result, Ok, Err, string_bytes}
use Rattle.sv_bytes.specs.Faults.{Rose}
use Rattle.sv_bytes.specs.Writing.{GrewOrRose}
use Rattle.sv_scenario.specs.declared.scenario.Scenario.{Scenario}
use Rattle.sv_scenario.specs.Limits.{IsGoodScenario}
use Rattle.sv_scenario.specs.Scenarios.{scenario_of}
use Rattle.sv_ending.specs.declared.ending.Ending.{Ending}
use Rattle.sv_ending.specs.declared.ending.Ending.TheVariants as endings
use Rattle.sv_ending.specs.Lines.{file_line}
use Rattle.sv_ending.specs.Reading.{IsFaulty, IsRead, IsRefused}

-- ---- Endings

abbrev pub status_of : Ending → ℕ
status_of endings.Done = 0
status_of endings.Words = 2
status_of (endings.Scenario line) = 3
status_of endings.File = 4
status_of endings.Out = 5
status_of endings.Link = 6
status_of endings.Start = 7
status_of endings.Memory = 8
status_of endings.Range = 10

-- what a part of a call ends with
abbrev pub ending_of : {A : Type 0} → Result A Ending → Ending
ending_of (Ok made) = endings.Done
ending_of (Err ending) = ending

-- the scenario that was read of a file, or why there is none
abbrev pub IsScenarioRead : Option (List ℕ) → Result Scenario Ending → Type 0
IsScenarioRead held (Ok scenario) = IsRead held scenario × IsGoodScenario scenario
IsScenarioRead held (Err (endings.Scenario line)) = IsRefused held (string_bytes line)
IsScenarioRead held (Err endings.File) = Unit {0}
IsScenarioRead held (Err endings.Memory) = Unit {0}
IsScenarioRead held (Err _) = ⊥

-- No bytes were read: the file can't be, or memory ran out.
abbrev pub IsUnread : Ending → Type 0
IsUnread endings.File = Unit {0}
IsUnread endings.Memory = Unit {0}
IsUnread _ = ⊥

-- the scenario that bytes are, or why there is none
abbrev pub IsGiven : List ℕ → Result Scenario Ending → Type 0
IsGiven bytes (Ok scenario) = (scenario_of bytes ≡ Ok scenario) × IsGoodScenario scenario
IsGiven bytes (Err (endings.Scenario line)) = IsFaulty bytes (string_bytes line)
IsGiven bytes (Err endings.Memory) = Unit {0}
IsGiven bytes (Err _) = ⊥

-- ---- Faults

-- The counts of faults of the files, the crew, the net and the output. The net stands for whatever a call is linked by.
pub record Counts : Type 0 where
  pub files : ℕ
  pub crew : ℕ
  pub net : ℕ
  pub out : ℕ

abbrev pub counts : ℕ → ℕ → ℕ → ℕ → Counts
counts files crew net out = record { files = files; crew = crew; net = net; out = out }

-- The count of what the ending tells of rose, and no other.
abbrev pub Raises : Counts → Counts → Ending → Type 0
Raises before now endings.File = Rose before.files now.files × (now ≡ record before { files = now.files })
Raises before now endings.Start = Rose before.crew now.crew × (now ≡ record before { crew = now.crew })
Raises before now endings.Link = Rose before.net now.net × (now ≡ record before { net = now.net })
Raises before now endings.Out = Rose before.out now.out × (now ≡ record before { out = now.out })
Raises before now _ = now ≡ before

-- A status tells of a fault exactly where the count of what failed rose.
pub record TellsFaults (status : ℕ) (before now : Counts) : Type 0 where
  pub file : (status ≡ 4) ↔ Rose before.files now.files
  pub start : (status ≡ 7) ↔ Rose before.crew now.crew
  pub link : (status ≡ 6) ↔ Rose before.net now.net
  pub out : (status ≡ 5) ↔ Rose before.out now.out

abbrev pub NoneRose : Counts → Counts → Type 0
NoneRose before now = (¬ Rose before.files now.files) × (¬ Rose before.crew now.crew) × (¬ Rose before.net now.net) × (¬ Rose before.out now.out)

-- ---- The line that a call writes beside its output

-- The line that tells of an ending, by the line that tells which words the call knows.
abbrev pub ending_line : List ℕ → Ending → Option (List ℕ) → List ℕ
ending_line words_line endings.Done named = []
ending_line words_line endings.Words named = words_line
ending_line words_line (endings.Scenario line) named = string_bytes line
ending_line words_line endings.File named = file_line (unwrap_or named [])
ending_line words_line endings.Out named = codes "out\n"
ending_line words_line endings.Link named = codes "link\n"
ending_line words_line endings.Start named = codes "start\n"
ending_line words_line endings.Memory named = codes "memory\n"
ending_line words_line endings.Range named = codes "range\n"

-- The line of a status other than 3.
abbrev pub status_line : List ℕ → ℕ → Option (List ℕ) → List ℕ
status_line words_line status named = if status == 2 then words_line
    else (if status == 4 then file_line (unwrap_or named [])
    else (if status == 5 then codes "out\n"
    else (if status == 6 then codes "link\n"
    else (if status == 7 then codes "start\n"
    else (if status == 8 then codes "memory\n"
    else (if status == 10 then codes "range\n" else []))))))

-- The sink was given just the line of the status. At 3 it tells of the first fault of what was read of the file.
pub record TellsStatus (words_line : List ℕ) (status : ℕ) (held named : Option (List ℕ)) (old now : Option (List ℕ)) (before after : ℕ) : Type 0 where
  pub line : List ℕ
  pub faulty : status ≡ 3 → IsRefused held line
  pub plain : status ≢ 3 → line ≡ status_line words_line status named
  pub told : GrewOrRose old now before after line
