-- When a count of faults rises: just where a call answers that it failed.
use Rattle.std.specs.Prelude.{◌≡◌, ℕ, ◌<◌, Result, Err}
use Rattle.sv_bytes.specs.declared.reading.Begun.{Begun}
use Rattle.sv_bytes.specs.declared.reading.Begun.TheVariants as begun
use Rattle.sv_bytes.specs.declared.reading.Read.{Read}
use Rattle.sv_bytes.specs.declared.reading.Read.TheVariants as read
use Rattle.sv_bytes.specs.declared.reading.FileFault.{FileFault}
use Rattle.sv_bytes.specs.declared.reading.FileFault.TheVariants as fault
use Rattle.sv_bytes.specs.declared.writing.Wrote.{Wrote}
use Rattle.sv_bytes.specs.declared.writing.Wrote.TheVariants as wrote

-- the count of faults rose
abbrev pub Rose : ℕ → ℕ → Type 0
Rose before now = before < now

-- the count at an answer of `begin`
abbrev pub BeginCause : ℕ → ℕ → Begun → Type 0
BeginCause before now begun.Failed = Rose before now
BeginCause before now _ = now ≡ before

-- the count at an answer of `read`
abbrev pub ReadCause : ℕ → ℕ → Read → Type 0
ReadCause before now read.Failed = Rose before now
ReadCause before now _ = now ≡ before

-- the count at an answer of `write`
abbrev pub WriteCause : ℕ → ℕ → Wrote → Type 0
WriteCause before now wrote.Failed = Rose before now
WriteCause before now _ = now ≡ before

-- the count at an answer of `read_all`
abbrev pub ReadAllCause : {A : Type 0} → ℕ → ℕ → Result A FileFault → Type 0
ReadAllCause before now (Err fault.Failed) = Rose before now
ReadAllCause before now _ = now ≡ before
