-- A log that is appended to.
use Rattle.std.specs.Prelude.{◌≡◌, ℕ, ◌+◌, List, ◌++◌, Some}
use Rattle.std.specs.String.{string_bytes}
use Rattle.sv_log.specs.Pictures.{Picture, Disk, seen}
use Rattle.sv_log.specs.Logs.{IsOpen, appended, synced}
use Rattle.sv_log.specs.Names.{segment_name, world_name}
use Rattle.sv_log.specs.Chains.{StateFile, lines, state_at, text_of, IsLog}
use Rattle.sv_log.specs.declared.log.Log.{Log}

module _ {F : Type 0} (disk : F → Disk) where
  abbrev pub shown : Log F → Picture
  shown log = seen (disk log.segment.folder)

  abbrev pub newest : Log F → StateFile
  newest log = (log.state, state_at (shown log) log.state)

  -- the text behind the newest state
  abbrev pub log_text : Log F → List ℕ
  log_text log = text_of (shown log) log.closed.items ++ appended disk log.segment

  -- the part of it that is synced
  abbrev pub log_synced : Log F → List ℕ
  log_synced log = text_of (shown log) log.closed.items ++ synced disk log.segment

  pub record IsOpenLog (log : Log F) : Type 0 where
    pub segment : IsOpen disk log.segment
    pub name : string_bytes log.segment.name ≡ segment_name log.first
    pub chain : IsLog (shown log) log.state log.closed.items log.first
    pub world : (bytes : List ℕ) × (shown log world_name ≡ Some bytes)
    pub next : log.next ≡ log.first + lines (appended disk log.segment)
