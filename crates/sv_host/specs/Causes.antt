-- Why a call of `host` ends as it does, and what it leaves.
-- `contents` says what a file holds, `rose` that reading failed once more, and `opens` as which folder one of a name is opened.
use Rattle.std.specs.Prelude.{◌≡◌, ◌≢◌, ◌⊎◌, ℕ, ◌+◌, ◌==◌, Bool, true, false, List, [], ◌∷◌, ◌++◌, length, take, Option, Some, None, Ok, Err, codes, string_bytes, if◌then◌else◌}
use Rattle.std.specs.Fmt.{decimal}
use Rattle.sv_scenario.specs.declared.fault.ScenarioFault.{ScenarioFault}
use Rattle.sv_scenario.specs.Lines.{fault_line}
use Rattle.sv_journal.specs.declared.entry.Entry.{Entry}
use Rattle.sv_journal.specs.History.{commit_of}
use Rattle.sv_journal.specs.Living.{living, living_rules}
use Rattle.sv_journal.specs.Serving.{LegalFor}
use Rattle.sv_living.specs.Sessions.{open_sessions, AreInOrder}
use Rattle.sv_living.specs.World.{WorldView, heeded_in}
use Rattle.sv_living.specs.declared.stewards.Stewards.{Stewards}
use Rattle.sv_log.specs.Pictures.{Disk}
use Rattle.sv_log.specs.Crashes.{LeavesOnly}
use Rattle.sv_log.specs.Names.{world_name}
use Rattle.sv_log.specs.OpenLogs.{shown, newest}
use Rattle.sv_log.specs.declared.reading.Cause.{Cause}
use Rattle.sv_log.specs.declared.reading.Cause.TheVariants as causes
use Rattle.sv_keys.specs.KeyLines.{IsWrongAt}
use Rattle.sv_keeper.specs.Histories.{HoldsFirst}
use Rattle.sv_keeper.specs.Keeping.{AreDurable}
use Rattle.sv_keeper.specs.Opened.{start_of, IsOpened, WhyNotOpened}
use Rattle.sv_keeper.specs.Views.{KeeperView}
use Rattle.sv_keeper.specs.declared.fault.LineCause.{LineCause}
use Rattle.sv_keeper.specs.declared.fault.LineCause.TheVariants as lines
use Rattle.sv_keeper.specs.declared.fault.OpenFault.{OpenFault}
use Rattle.sv_keeper.specs.declared.fault.OpenFault.TheVariants as faults
use Rattle.sv_worldfile.specs.declared.world_file.Results.{Results}
use Rattle.sv_worldfile.specs.declared.world_file.Results.TheVariants as results
use Rattle.sv_worldfile.specs.declared.world_file.WorldFile.{WorldFile}
use Rattle.sv_worldfile.specs.WorldFiles.{most_bytes, world_file_of}
use Rattle.sv_ports.specs.Traffic.{Traffic, nothing_told}
use Rattle.sv_office.specs.Admitting.{steward_number}
use Rattle.sv_office.specs.Entering.{AreAdded}
use Rattle.sv_host.specs.Inputs.{WasToldToStop}
use Rattle.sv_host.specs.Joining.{MayJoinByKeys}
use Rattle.sv_host.specs.Rooms.{Continues, HaveBegun, IsAnEnd}
use Rattle.sv_host.specs.Served.{HostBreaksOff, OnlyWrote}
use Rattle.sv_host.specs.Words.{Asked, Ask, AsksNothing}
use Rattle.sv_host.specs.declared.ending.HostEnd.{HostEnd}
use Rattle.sv_host.specs.declared.ending.HostEnd.TheVariants as endings
use Rattle.sv_host.specs.declared.ending.Stopped.{Stopped}
use Rattle.sv_host.specs.declared.hall.DoorFault.{DoorFault}
use Rattle.sv_host.specs.declared.hall.DoorFault.TheVariants as barred
use Rattle.sv_host.specs.declared.hall.FolderFault.{FolderFault}
use Rattle.sv_host.specs.declared.hall.FolderFault.TheVariants as closed
use Rattle.sv_bytes.specs.Faults.{Rose}

-- ---- What is read

-- A file is read so far and no further: one byte more than a world's file may have.
abbrev pub read_limit : ℕ
read_limit = most_bytes + 1

-- The bytes that were read of a file, by what it holds, where that is told.
abbrev pub IsFileFront : Option (List ℕ) → List ℕ → Type 0
IsFileFront (Some all) bytes = bytes ≡ take read_limit all
IsFileFront None bytes = Unit {0}

-- What was read of the file is this world.
pub record IsRead (held : Option (List ℕ)) (file : WorldFile) (bytes : List ℕ) : Type 0 where
  pub front : IsFileFront held bytes
  pub read : world_file_of bytes ≡ Ok file

-- These bytes are no world, and this line tells of their first fault.
pub record IsFaulty (bytes line : List ℕ) : Type 0 where
  pub fault : ScenarioFault
  pub faulty : world_file_of bytes ≡ Err fault
  pub told : line ≡ fault_line fault

-- What was read of the file is no world, and this line tells of its first fault.
pub record IsNoWorld (held : Option (List ℕ)) (line : List ℕ) : Type 0 where
  pub bytes : List ℕ
  pub front : IsFileFront held bytes
  pub faulty : IsFaulty bytes line

abbrev pub is_authority : Results → Bool
is_authority results.First = false
is_authority results.Authority = true

-- What was read of the world's file is this world, and there is to be a steward where he alone is to report.
pub record IsPrepared (held : Option (List ℕ)) (asked : Asked) (file : WorldFile) (bytes : List ℕ) : Type 0 where
  pub read : IsRead held file bytes
  pub reports : is_authority file.results ≡ true → asked.has_steward ≡ true

-- The steward alone is to report, and there is to be none.
pub record LacksSteward (held : Option (List ℕ)) (asked : Asked) : Type 0 where
  pub file : WorldFile
  pub bytes : List ℕ
  pub read : IsRead held file bytes
  pub alone : is_authority file.results ≡ true
  pub none : asked.has_steward ≡ false

-- The first wrong line of a file of keys is this one.
abbrev pub IsWrongKeyLine : Option (List ℕ) → ℕ → Type 0
IsWrongKeyLine held n = (all : List ℕ) → held ≡ Some all → IsWrongAt all n

-- ---- Why nothing is opened

-- Why the world's file has no bytes; for private clauses.
abbrev pub WhyUnread : List ℕ → Type 0 → HostEnd → Type 0
WhyUnread name rose (endings.File file) = (string_bytes file ≡ name) × rose
WhyUnread name rose endings.Memory = Unit {0}
WhyUnread name rose _ = ⊥

-- Why bytes are no world; for private clauses.
abbrev pub WhyFaulty : List ℕ → HostEnd → Type 0
WhyFaulty bytes (endings.World line) = IsFaulty bytes (string_bytes line)
WhyFaulty bytes endings.Memory = Unit {0}
WhyFaulty bytes _ = ⊥

-- Why there are no keys.
abbrev pub WhyNoKeys : (List ℕ → Option (List ℕ)) → Option (List ℕ) → HostEnd → Type 0
WhyNoKeys contents named (endings.Keys file line) = (named ≡ Some (string_bytes file)) × IsWrongKeyLine (contents (string_bytes file)) line
WhyNoKeys contents named (endings.File file) = named ≡ Some (string_bytes file)
WhyNoKeys contents named endings.Memory = Unit {0}
WhyNoKeys contents named _ = ⊥

-- Why the folder is not opened: the words, a file or want of memory.
abbrev pub WhyBefore : (List ℕ → Option (List ℕ)) → Type 0 → Asked → HostEnd → Type 0
WhyBefore contents rose asked endings.Words = LacksSteward (contents asked.world) asked
WhyBefore contents rose asked (endings.World line) = IsNoWorld (contents asked.world) (string_bytes line)
WhyBefore contents rose asked (endings.Keys file line) = (asked.keys ≡ Some (string_bytes file)) × IsWrongKeyLine (contents (string_bytes file)) line
WhyBefore contents rose asked (endings.File file) = ((string_bytes file ≡ asked.world) × rose) ⊎ (asked.keys ≡ Some (string_bytes file))
WhyBefore contents rose asked endings.Memory = Unit {0}
WhyBefore contents rose asked _ = ⊥

-- ---- Why a log is refused

-- By whose reports the world of a file goes.
abbrev pub stewards_in : WorldFile → Stewards
stewards_in file = record { steward = Some steward_number; authority = is_authority file.results }

-- The world of a file, in which nobody has asked anything.
abbrev pub start_in : WorldFile → WorldView
start_in file = start_of (living_rules file.world file.bound file.reach file.rights) (stewards_in file)

abbrev pub cause_word : Cause → List ℕ
cause_word causes.Failed = codes "failed"
cause_word causes.Memory = codes "memory"
cause_word causes.Missing = codes "missing"
cause_word causes.Empty = codes "empty"
cause_word causes.Misnamed = codes "name"
cause_word causes.Behind = codes "behind"
cause_word causes.Sum = codes "sum"
cause_word causes.World = codes "world"

abbrev pub line_word : LineCause → List ℕ
line_word lines.Unread = codes "line"
line_word lines.Session = codes "session"
line_word lines.Other = codes "reply"

-- The file that is at fault, or else the folder.
abbrev pub named_or : List ℕ → List ℕ → List ℕ
named_or folder [] = folder
named_or folder (b ∷ file) = b ∷ file

-- A line of a file, and what is wrong there.
abbrev pub line_place : List ℕ → ℕ → List ℕ → List ℕ
line_place file line word = file ++ codes ":" ++ decimal line ++ codes " " ++ word

-- The same of a whole file, where the line is 0.
abbrev pub file_place : List ℕ → ℕ → List ℕ → List ℕ
file_place file line word = if line == 0 then file ++ codes " " ++ word else line_place file line word

-- What is told of a log that is not opened.
abbrev pub fault_place : List ℕ → OpenFault → List ℕ
fault_place folder (faults.Refused refusal) = file_place (named_or folder (string_bytes refusal.file)) refusal.line (cause_word refusal.cause)
fault_place folder (faults.Line file line cause) = line_place (string_bytes file) line (line_word cause)
fault_place folder _ = []

-- What stands in the log is at fault, and not the disk or memory.
abbrev pub IsOfLog : OpenFault → Type 0
IsOfLog (faults.Refused refusal) = (refusal.cause ≢ causes.Failed) × (refusal.cause ≢ causes.Memory)
IsOfLog (faults.Line file line cause) = Unit {0}
IsOfLog _ = ⊥

-- The disk is at fault.
abbrev pub IsOfDisk : OpenFault → Type 0
IsOfDisk (faults.Refused refusal) = refusal.cause ≡ causes.Failed
IsOfDisk faults.Disk = Unit {0}
IsOfDisk _ = ⊥

-- What is told where the disk failed.
abbrev pub disk_place : List ℕ → OpenFault → List ℕ
disk_place folder (faults.Refused refusal) = named_or folder (string_bytes refusal.file)
disk_place folder _ = folder

-- How it ends where a log is not opened; for private clauses.
abbrev pub EndsUnopened : List ℕ → OpenFault → HostEnd → Type 0
EndsUnopened folder fault (endings.Log place) = IsOfLog fault × (string_bytes place ≡ fault_place folder fault)
EndsUnopened folder fault (endings.Disk name) = IsOfDisk fault × (string_bytes name ≡ disk_place folder fault)
EndsUnopened folder fault endings.Memory = Unit {0}
EndsUnopened folder fault _ = ⊥

-- Why there is no folder; for private clauses.
abbrev pub WhyNoFolder : (FolderFault → Type 0) → List ℕ → HostEnd → Type 0
WhyNoFolder refuses folder (endings.Disk name) = (string_bytes name ≡ folder) × refuses closed.Failed
WhyNoFolder refuses folder (endings.Busy name) = (string_bytes name ≡ folder) × refuses closed.Busy
WhyNoFolder refuses folder endings.Memory = Unit {0}
WhyNoFolder refuses folder _ = ⊥

-- How it ends where the serving broke off; for private clauses.
abbrev pub IsHalted : HostEnd → Type 0
IsHalted (endings.Disk name) = Unit {0}
IsHalted endings.Link = Unit {0}
IsHalted endings.Memory = Unit {0}
IsHalted _ = ⊥

-- Why it stops, once the log is opened; for private clauses.
abbrev pub WhyStopped : (DoorFault → Type 0) → List ℕ → HostEnd → Type 0
WhyStopped refuses at (endings.Disk name) = Unit {0}
WhyStopped refuses at (endings.Busy name) = (string_bytes name ≡ at) × refuses barred.Busy
WhyStopped refuses at endings.Link = Unit {0}
WhyStopped refuses at endings.Memory = Unit {0}
WhyStopped refuses at _ = ⊥

module _ {F : Type 0} (disk : F → Disk) (is_honest : F → Type 0) where
  -- The folder's log is refused, as this line tells. No file of it was changed.
  pub record IsRefusedLog (folder : F) (file : WorldFile) (bytes : List ℕ) (name line : List ℕ) : Type 0 where
    pub now : F
    pub fault : OpenFault
    pub own : IsOfLog fault
    pub why : is_honest now → WhyNotOpened (disk folder) (disk now) bytes (start_in file) fault
    pub told : line ≡ fault_place name fault

  -- The disk failed once more where the log was to be opened, as this line tells.
  pub record IsFailedLog (count : F → ℕ) (folder : F) (name line : List ℕ) : Type 0 where
    pub now : F
    pub fault : OpenFault
    pub own : IsOfDisk fault
    pub rose : Rose (count folder) (count now)
    pub told : line ≡ disk_place name fault

  -- Why the log of a folder is not opened.
  abbrev pub WhyUnopened : (F → ℕ) → F → WorldFile → List ℕ → List ℕ → HostEnd → Type 0
  WhyUnopened count folder file bytes name (endings.Log line) = IsRefusedLog folder file bytes name (string_bytes line)
  WhyUnopened count folder file bytes name (endings.Disk which) = IsFailedLog count folder name (string_bytes which)
  WhyUnopened count folder file bytes name endings.Memory = Unit {0}
  WhyUnopened count folder file bytes name _ = ⊥

  -- Each session has its End, the history is legal by the answer table, and all of it is on the disk: what a crash leaves is a log with all its
  -- lines.
  pub record IsAtEnd (keeper : KeeperView F) : Type 0 where
    pub ended : open_sessions keeper.world.history ≡ []
    pub durable : AreDurable disk is_honest keeper
    pub legal : LegalFor (living keeper.world.stewardship) keeper.world.rules keeper.world.history
    pub order : AreInOrder keeper.world.history
    pub crash : is_honest keeper.log.segment.folder → (world : List ℕ) → shown disk keeper.log world_name ≡ Some world
        → LeavesOnly (disk keeper.log.segment.folder) (disk keeper.log.segment.folder)
        (HoldsFirst keeper.world.rules.world.shape world (newest disk keeper.log) keeper.world.history (length keeper.world.history))

  -- The world was served until the input told to stop: it went on, who joined might, and what was written is what connections were told before the last
  -- Ends. This is told of it: the folder's name, how many entries there are, and the commit.
  pub record HasStopped (may_join : Entry → Type 0) (first : KeeperView F) (before after : Traffic) (name : List ℕ) (stopped : Stopped) : Type 0 where
    pub keeper : KeeperView F
    pub goes : Continues first.world keeper.world
    pub joins : AreAdded may_join first.world.history keeper.world.history
    pub done : IsAtEnd keeper
    pub sent : OnlyWrote IsAnEnd before after first.world keeper.world
    pub begun : (fresh : before ≡ nothing_told) → HaveBegun (sent fresh)
    pub asked : before ≡ nothing_told → WasToldToStop after
    pub folder : string_bytes stopped.folder ≡ name
    pub entries : stopped.entries ≡ length keeper.world.history
    pub commit : stopped.commit ≡ commit_of (heeded_in keeper.world)

  module _ (opens : List ℕ → F → Type 0) (contents : List ℕ → Option (List ℕ)) where
    -- The world of the file was read, and the folder opened.
    pub record HasFolder (asked : Asked) : Type 0 where
      pub file : WorldFile
      pub bytes : List ℕ
      pub prepared : IsPrepared (contents asked.world) asked file bytes
      pub folder : F
      pub opened : opens asked.folder folder

    -- The folder is opened, and its log is refused.
    pub record HasRefusedLog (asked : Asked) (line : List ℕ) : Type 0 where
      pub over : HasFolder asked
      pub refused : IsRefusedLog over.folder over.file over.bytes asked.folder line

    -- The folder is opened, and the disk failed where its log was to be opened.
    pub record HasFailedLog (count : F → ℕ) (asked : Asked) (line : List ℕ) : Type 0 where
      pub over : HasFolder asked
      pub failed : IsFailedLog count over.folder asked.folder line

    -- The log of the folder was opened.
    pub record HasOpened (asked : Asked) : Type 0 where
      pub over : HasFolder asked
      pub first : KeeperView F
      pub begun : IsOpened disk is_honest (disk over.folder) over.bytes (start_in over.file) first

    module _ (before after : Traffic) where
      -- The log of the folder was opened, and its world served until it was to stop.
      pub record WasServed (asked : Asked) (stopped : Stopped) : Type 0 where
        pub log : HasOpened asked
        pub last : HasStopped (MayJoinByKeys contents asked.keys) log.first before after asked.folder stopped

      -- The log of the folder was opened, and its world served until it broke off.
      pub record WasServedFirst (asked : Asked) : Type 0 where
        pub log : HasOpened asked
        pub broke : HostBreaksOff (MayJoinByKeys contents asked.keys) before after log.first.world

      -- What was written where it was not told to stop: nothing through any door, or what connections of the folder's world were told.
      abbrev pub WroteFirst : Asked → Type 0
      WroteFirst asked = (after ≡ before) ⊎ WasServedFirst asked

      module _ (count : F → ℕ) (closed_by : List ℕ → FolderFault → Type 0) (barred_by : List ℕ → DoorFault → Type 0) where
        -- Why it ends with the folder, the log or the door.
        abbrev pub WhyBehind : Asked → HostEnd → Type 0
        WhyBehind asked (endings.Log line) = HasRefusedLog asked (string_bytes line)
        WhyBehind asked (endings.Disk name) = ((string_bytes name ≡ asked.folder) × closed_by asked.folder closed.Failed)
            ⊎ (HasFailedLog count asked (string_bytes name) ⊎ WasServedFirst asked)
        WhyBehind asked (endings.Busy name) = ((string_bytes name ≡ asked.folder) × closed_by asked.folder closed.Busy)
            ⊎ (((string_bytes name ≡ asked.at) × barred_by asked.at barred.Busy) × WasServedFirst asked)
        WhyBehind asked endings.Link = WasServedFirst asked
        WhyBehind asked endings.Memory = Unit {0}
        WhyBehind asked _ = ⊥

        -- Why it ends without having been told to stop.
        abbrev pub WhyEnds : Type 0 → Asked → HostEnd → Type 0
        WhyEnds rose asked e = WhyBefore contents rose asked e ⊎ WhyBehind asked e

        -- How a call of these words ends, and why.
        pub data EndsFor (words : List (List ℕ)) (rose : Type 0) : HostEnd → Type 0 where
          nothing : AsksNothing words → after ≡ before → EndsFor words rose endings.Words
          memory : after ≡ before → EndsFor words rose endings.Memory
          early : {e : HostEnd} (asked : Asked) → Ask words asked → WhyEnds rose asked e → WroteFirst asked → EndsFor words rose e
          served : {stopped : Stopped} (asked : Asked) → Ask words asked → WasServed asked stopped → EndsFor words rose (endings.Done stopped)
