-- A segment of the log on its folder.
use Rattle.std.specs.Prelude.{◌≡◌, ◌≢◌, ℕ, ◌-◌, ◌≤◌, true, false, List, ◌++◌, length, take, drop, Some}
use Rattle.std.specs.String.{string_bytes}
use Rattle.sv_log.specs.Pictures.{Picture, Disk, seen, zeros}
use Rattle.sv_log.specs.Crashes.{SameBut, CrashLeaves, has_failed, has_renamed, is_synced}
use Rattle.sv_log.specs.Texts.{IsText, IsFront, Masked, whole_in}
use Rattle.sv_log.specs.declared.segment.Segment.{Segment}

-- A file has a synced text, behind it a text that is not synced yet, and then zeros. A crash loses some bytes of the second text: each is a zero then.
pub record LogStands (disk : Disk) (name synced pending : List ℕ) (room : ℕ) : Type 0 where
  pub synced_text : IsText synced
  pub pending_text : IsText pending
  pub file : seen disk name ≡ Some (synced ++ pending ++ zeros room)
  pub crash : (c : Picture) → CrashLeaves disk.start disk.past c
      → SameBut name c (seen disk) × ((torn : List ℕ) × Masked pending torn × (c name ≡ Some (synced ++ torn ++ zeros room)))
  pub calm : has_failed disk.past ≡ false
  pub names : has_renamed disk.past ≡ false
  pub others : (n : List ℕ) → n ≢ name → is_synced disk.past n ≡ true

-- a folder in which one file has a text from low to high, and the others are as they were
abbrev pub Within : Picture → List ℕ → List ℕ → List ℕ → Picture → Type 0
Within others name low high c = SameBut name c others × IsFront low (whole_in (c name)) × IsFront (whole_in (c name)) high
    × ((bytes : List ℕ) × (c name ≡ Some bytes))

-- what is synced is a part of the text, and the text of the file
abbrev pub HasSizes : {F : Type 0} → Segment F → Type 0
HasSizes log = (log.synced ≤ log.length) × (log.length ≤ log.size)

module _ {F : Type 0} (disk : F → Disk) where
  -- the text that was appended
  abbrev pub appended : Segment F → List ℕ
  appended log = whole_in (seen (disk log.folder) (string_bytes log.name))

  -- the part of it that is synced
  abbrev pub synced : Segment F → List ℕ
  synced log = take log.synced (appended log)

  abbrev pub pending : Segment F → List ℕ
  pending log = drop log.synced (appended log)

  -- a segment that is appended to
  pub record IsOpen (log : Segment F) : Type 0 where
    pub stands : LogStands (disk log.folder) (string_bytes log.name) (synced log) (pending log) (log.size - log.length)
    pub size : log.length ≡ length (appended log)
    pub part : log.synced ≤ log.length
    pub within : log.length ≤ log.size
