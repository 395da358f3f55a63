-- What the system's answer to a call comes to.
use Rattle.std.specs.Prelude.{◌≡◌, ◌≢◌, ℕ, ◌<◌, ◌==◌, ◌↔◌, Result, Ok, Err, if◌then◌else◌}
use Rattle.std.specs.IoError.{error_kind}
use Rattle.std.specs.declared.io.Error.{Error}
use Rattle.std.specs.declared.io.ErrorKind.TheVariants.{OutOfMemory}
use Rattle.sv_link.specs.Logs.{IsReadFault, IsWriteFault, CountsFault}
use Rattle.sv_link.specs.declared.log.EndLog.{EndLog}
use Rattle.sv_link.specs.declared.ends.EndRead.{EndRead}
use Rattle.sv_link.specs.declared.ends.EndRead.TheVariants as read
use Rattle.sv_link.specs.declared.ends.EndWrote.{EndWrote}
use Rattle.sv_link.specs.declared.ends.EndWrote.TheVariants as wrote
use Rattle.sv_link.specs.declared.nets.Pair.{Pair}
use Rattle.sv_link.specs.declared.nets.Pair.TheVariants as pair

-- A fault is told as one where it can be counted, and else as want of memory.
abbrev pub TellsReadFault : EndLog → EndRead → Type 0
TellsReadFault log answer = IsReadFault answer × (answer ≡ read.Failed ↔ CountsFault log)

abbrev pub TellsWriteFault : EndLog → EndWrote → Type 0
TellsWriteFault log answer = IsWriteFault answer × (answer ≡ wrote.Failed ↔ CountsFault log)

-- A read that moved no byte is the end. An error is a fault, but for want of memory.
abbrev pub ReadAnswer : EndLog → Result ℕ Error → EndRead → Type 0
ReadAnswer log (Ok n) answer = answer ≡ (if n == 0 then read.Ended else read.Got n)
ReadAnswer log (Err e) answer = (error_kind e ≡ OutOfMemory → answer ≡ read.Memory) × (error_kind e ≢ OutOfMemory → TellsReadFault log answer)

-- A write that moved no byte is a fault, and so is an error, but for want of memory.
abbrev pub WroteAnswer : EndLog → Result ℕ Error → EndWrote → Type 0
WroteAnswer log (Ok n) answer = (0 < n → answer ≡ wrote.Took n) × (n ≡ 0 → TellsWriteFault log answer)
WroteAnswer log (Err e) answer = (error_kind e ≡ OutOfMemory → answer ≡ wrote.Memory) × (error_kind e ≢ OutOfMemory → TellsWriteFault log answer)

module _ {A E : Type 0} where
  -- Streams make a pair. An error is a failure, but for want of memory.
  abbrev pub PairAnswer : Result A Error → Pair E → Type 0
  PairAnswer (Ok streams) answer = (answer ≢ pair.Failed) × (answer ≢ pair.Memory)
  PairAnswer (Err e) answer = (error_kind e ≡ OutOfMemory → answer ≡ pair.Memory) × (error_kind e ≢ OutOfMemory → answer ≡ pair.Failed)
