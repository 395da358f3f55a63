-- Ends over TCP.
use Rattle.std.specs.Prelude.{ℕ}
use Rattle.sv_link.specs.Ends.{Told}
use Rattle.sv_link.specs.Logs.{told_of}
use Rattle.sv_link.specs.declared.tcp.TcpEnd.{TcpEnd}

module _ {S : Type 0} where
  -- what an end over TCP tells of itself, and its count of faults
  abbrev pub end_told : TcpEnd S → Told
  end_told end = told_of end.log

  abbrev pub end_faults : TcpEnd S → ℕ
  end_faults end = end.log.faults
