-- What is opened where a crash left a log.
use Rattle.std.specs.Prelude.{◌≡◌, ℕ, List}
use Rattle.sv_log.specs.Pictures.{Disk}
use Rattle.sv_log.specs.Crashes.{LeavesOnly}
use Rattle.sv_log.specs.Texts.{IsFront}
use Rattle.sv_log.specs.Chains.{StateFile, KeepsLog}
use Rattle.sv_log.specs.OpenLogs.{IsOpenLog, newest, log_text, log_synced}
use Rattle.sv_log.specs.Refusals.{IsWhy}
use Rattle.sv_log.specs.declared.reading.LogRefusal.{LogRefusal}
use Rattle.sv_log.specs.declared.log.Log.{Log}

-- The log is that of this world and state, and all of its text is synced. The text begins with `low`, and `high` begins with it. A crash at
-- any moment of the opening leaves such a log again.
pub record Recovers {F : Type 0} (disk : F → Disk) (left : Disk) (log : Log F) (world : List ℕ) (state : StateFile) (low high : List ℕ) : Type 0 where
  pub opened : IsOpenLog disk log
  pub after : newest disk log ≡ state
  pub begins : IsFront low (log_text disk log)
  pub ends : IsFront (log_text disk log) high
  pub synced : log_synced disk log ≡ log_text disk log
  pub crash : LeavesOnly left (disk log.segment.folder) (KeepsLog world state low high)

-- The disk failed, or memory was wanting, and the log is still there.
pub record HasFailed (left now : Disk) (refusal : LogRefusal) (world : List ℕ) (state : StateFile) (low high : List ℕ) : Type 0 where
  pub why : IsWhy ⊥ refusal.cause
  pub crash : LeavesOnly left now (KeepsLog world state low high)
