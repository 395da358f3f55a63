-- What an end keeps of its own calls.
use Rattle.std.specs.Prelude.{ℕ, ◌+◌, ◌-◌, ◌^◌, ◌<◌, min}
use Rattle.sv_link.specs.Ends.{Told}
use Rattle.sv_link.specs.declared.log.EndLog.{EndLog}
use Rattle.sv_link.specs.declared.ends.EndRead.{EndRead}
use Rattle.sv_link.specs.declared.ends.EndRead.TheVariants as read
use Rattle.sv_link.specs.declared.ends.EndWrote.{EndWrote}
use Rattle.sv_link.specs.declared.ends.EndWrote.TheVariants as wrote

abbrev pub told_of : EndLog → Told
told_of log =
    record {
      sent = log.sent.items;
      received = log.received.items;
      ended = log.ended;
      closed = log.closed;
      pair = log.pair;
      side = log.side;
    }

-- the answers of a read that moved nothing
abbrev pub IsReadFault : EndRead → Type 0
IsReadFault (read.Got n) = ⊥
IsReadFault read.Ended = ⊥
IsReadFault read.Failed = Unit {0}
IsReadFault read.Memory = Unit {0}

-- the answers of a write that moved nothing
abbrev pub IsWriteFault : EndWrote → Type 0
IsWriteFault (wrote.Took n) = ⊥
IsWriteFault wrote.Failed = Unit {0}
IsWriteFault wrote.Memory = Unit {0}

-- a fault can be counted: the count is not full
abbrev pub CountsFault : EndLog → Type 0
CountsFault log = log.faults + 1 < 2 ^ 64

-- the log's count of faults after one more, which stops where it is full
abbrev pub faults_after : EndLog → ℕ
faults_after log = min (log.faults + 1) (2 ^ 64 - 1)
