-- The count of faults at a fault.
use Rattle.std.specs.Prelude.{◌≡◌, ℕ, Result, Err}
use Rattle.sv_bytes.specs.Faults.{Rose}
use Rattle.sv_bytes.specs.declared.reading.FileFault.{FileFault}
use Rattle.sv_bytes.specs.declared.reading.FileFault.TheVariants as fault

-- it rose, unless memory was wanting
abbrev pub FaultCause : ℕ → ℕ → FileFault → Type 0
FaultCause before now fault.Failed = Rose before now
FaultCause before now fault.Memory = now ≡ before
