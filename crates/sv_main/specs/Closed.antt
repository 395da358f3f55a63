-- What the connections of the door told that was closed last.
use Rattle.std.specs.Prelude.{List, [], ◌∷◌}
use Rattle.sv_ports.specs.Traffic.{Traffic, nothing_told}
use Rattle.sv_mio.specs.Ports.{told_of}
use Rattle.sv_mio.specs.declared.ports.MioPorts.{MioPorts}

module _ {I : Type 0} where
  abbrev pub told_by : List (MioPorts I × Unit {0}) → Traffic
  told_by [] = nothing_told
  told_by (closed ∷ rest) = told_of closed.0
