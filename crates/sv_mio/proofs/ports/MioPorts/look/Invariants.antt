-- Looking moves no bytes.
use Rattle.std.proofs.Common.{◌≡◌}
use Rattle.sv_mio.specs.Ports.{told_of}
use Rattle.sv_mio.proofs.ports.MioPorts.look.Given as goal

abbrev pub invariant-loop : goal.invariant-loop
invariant-loop g l = told_of l.self ≡ told_of l.fn.self
