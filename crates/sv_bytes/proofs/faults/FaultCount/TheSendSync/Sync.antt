-- A count may be shared between threads.
use denote.Param.Send.{IsSync, part_keyless}
use Rattle.sv_bytes.specs.contracts.faults.FaultCount.{the_row}
use Rattle.sv_bytes.proofs.faults.FaultCount.TheSendSync.Send.{send}

pub sync : IsSync the_row
sync = record { shared = λ d b o κ q. part_keyless the_row send q d b o }
