-- The loop invariant of `values_of`.
use Rattle.std.proofs.Common.{◌≡◌, ◌-◌}
use Rattle.sv_wire.specs.Fields.{value_from}
use Rattle.sv_wire.specs.Steps.{several}
use Rattle.sv_wire.proofs.Loop.{with_front}
use Rattle.sv_wire.proofs.fields.values_of.Given as goal

abbrev pub invariant-loop : goal.invariant-loop
invariant-loop l = with_front l.values (several value_from (l.count - l.counter) l.rest) ≡ several value_from l.count l.bytes
