-- The loop invariant of `results_of`.
use Rattle.std.proofs.Common.{◌≡◌, ◌-◌}
use Rattle.sv_wire.specs.Fields.{result_from}
use Rattle.sv_wire.specs.Steps.{several}
use Rattle.sv_wire.proofs.Loop.{with_front}
use Rattle.sv_wire.proofs.fields.results_of.Given as goal

abbrev pub invariant-loop : goal.invariant-loop
invariant-loop l = with_front l.results (several result_from (l.count - l.counter) l.rest) ≡ several result_from l.count l.bytes
