-- Doors over TCP.
use Rattle.std.specs.Prelude.{◌≡◌, ◌≢◌, ℕ, Option, option_map, Result, Ok, Err, IsErrAnd}
use Rattle.std.specs.IoError.{error_kind}
use Rattle.std.specs.declared.io.Error.{Error}
use Rattle.std.specs.declared.io.ErrorKind.{ErrorKind}
use Rattle.std.specs.declared.io.ErrorKind.TheVariants.{OutOfMemory}
use Rattle.sv_door.specs.declared.doors.EndMade.{EndMade}
use Rattle.sv_door.specs.declared.doors.EndMade.TheVariants as made
use Rattle.sv_door.specs.declared.tcp_door.TcpDoor.{TcpDoor}

module _ {R : Type 0} where
  -- the port at which a door listens, if it does
  abbrev pub bound_port : TcpDoor R → Option ℕ
  bound_port door = option_map (λ bound. bound.port) door.bound

module _ {A : Type 0} where
  -- the answer is an error of this kind
  abbrev pub IsErrorOf : Result A Error → ErrorKind → Type 0
  IsErrorOf answer kind = IsErrAnd answer (λ e. error_kind e ≡ kind)

module _ {A E : Type 0} where
  -- A stream makes an end. An error is a failure, but for want of memory.
  abbrev pub EndAnswer : Result A Error → EndMade E → Type 0
  EndAnswer (Ok stream) answer = (answer ≢ made.Failed) × (answer ≢ made.Memory)
  EndAnswer (Err e) answer = (error_kind e ≡ OutOfMemory → answer ≡ made.Memory) × (error_kind e ≢ OutOfMemory → answer ≡ made.Failed)
