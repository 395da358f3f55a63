-- What the system answers to a read and to a write.
use Rattle.std.specs.Prelude.{◌≡◌, ◌≢◌, ℕ, ◌==◌, Result, Ok, Err, if◌then◌else◌}
use Rattle.std.specs.IoError.{error_kind}
use Rattle.std.specs.declared.io.Error.{Error}
use Rattle.std.specs.declared.io.ErrorKind.TheVariants.{WouldBlock}
use Rattle.sv_ports.specs.declared.ports.PortRead.{PortRead}
use Rattle.sv_ports.specs.declared.ports.PortRead.TheVariants as reads
use Rattle.sv_ports.specs.declared.ports.PortWrote.{PortWrote}
use Rattle.sv_ports.specs.declared.ports.PortWrote.TheVariants as writes

-- No byte is the end.
abbrev pub ReadAnswer : Result ℕ Error → PortRead → Type 0
ReadAnswer (Ok n) answer = answer ≡ (if n == 0 then reads.Ended else reads.Got n)
ReadAnswer (Err e) answer = (error_kind e ≡ WouldBlock → answer ≡ reads.NotYet) × (error_kind e ≢ WouldBlock → answer ≡ reads.Failed)

-- Where no byte was taken, it failed.
abbrev pub WroteAnswer : Result ℕ Error → PortWrote → Type 0
WroteAnswer (Ok n) answer = answer ≡ (if n == 0 then writes.Failed else writes.Took n)
WroteAnswer (Err e) answer = (error_kind e ≡ WouldBlock → answer ≡ writes.NotYet) × (error_kind e ≢ WouldBlock → answer ≡ writes.Failed)
