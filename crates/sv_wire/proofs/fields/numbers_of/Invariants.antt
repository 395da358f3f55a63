-- The loop invariant of `numbers_of`.
use Rattle.std.proofs.Common.{◌≡◌, ◌-◌}
use Rattle.sv_wire.specs.Fields.{int_from}
use Rattle.std.specs.Int.{w64}
use Rattle.sv_wire.specs.Steps.{several}
use Rattle.sv_wire.proofs.Loop.{with_front}
use Rattle.sv_wire.proofs.fields.numbers_of.Given as goal

abbrev pub invariant-loop : goal.invariant-loop
invariant-loop l = with_front l.numbers (several (int_from w64) (l.count - l.counter) l.rest) ≡ several (int_from w64) l.count l.bytes
