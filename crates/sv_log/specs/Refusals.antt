-- Why a log is refused, and the count of faults.
use Rattle.std.specs.Prelude.{◌≡◌, ℕ, ◌<◌, List, Option, Some, None, Result, Ok, Err}
use Rattle.sv_bytes.specs.Faults.{Rose}
use Rattle.sv_bytes.specs.declared.reading.FileFault.{FileFault}
use Rattle.sv_bytes.specs.declared.reading.FileFault.TheVariants as fault
use Rattle.sv_log.specs.Pictures.{Picture}
use Rattle.sv_log.specs.Names.{segment_name, IsNumber}
use Rattle.sv_log.specs.Chains.{StateFile, IsClosed, HasLog}
use Rattle.sv_log.specs.declared.reading.Cause.{Cause}
use Rattle.sv_log.specs.declared.reading.Cause.TheVariants as cause
use Rattle.sv_log.specs.declared.reading.LogRefusal.{LogRefusal}

-- the count rose where the disk failed
abbrev pub CauseCount : ℕ → ℕ → Cause → Type 0
CauseCount before now cause.Failed = Rose before now
CauseCount before now _ = now ≡ before

abbrev pub RefusalCause : {A : Type 0} → ℕ → ℕ → Result A LogRefusal → Type 0
RefusalCause before now (Ok _) = now ≡ before
RefusalCause before now (Err r) = CauseCount before now r.cause

-- a fault as a cause
abbrev pub IsCauseOf : FileFault → Cause → Type 0
IsCauseOf fault.Failed c = c ≡ cause.Failed
IsCauseOf fault.Memory c = c ≡ cause.Memory

-- the folder holds no log of this world
abbrev pub HasNoLog : List ℕ → Picture → Type 0
HasNoLog world p = (state : StateFile) → (text : List ℕ) → HasLog world state text p → ⊥

-- there is a segment of this number, and none behind it
abbrev pub IsLast : Picture → ℕ → Type 0
IsLast p n = IsNumber n × ((bytes : List ℕ) × (p (segment_name n) ≡ Some bytes)) × ((m : ℕ) → IsNumber m → n < m → p (segment_name m) ≡ None)

-- no closed segments lead from this number to the last segment
abbrev pub HasNoChain : Picture → ℕ → Type 0
HasNoChain p first = (closed : List ℕ) → (last : ℕ) → IsClosed p first closed last → IsLast p last → ⊥

-- this is why, unless the disk failed or memory was wanting
abbrev pub IsWhy : Type 0 → Cause → Type 0
IsWhy why cause.Failed = Unit {0}
IsWhy why cause.Memory = Unit {0}
IsWhy why _ = why
