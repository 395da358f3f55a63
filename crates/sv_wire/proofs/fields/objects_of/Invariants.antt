-- The loop invariant of `objects_of`.
use Rattle.std.proofs.Common.{◌≡◌, ◌-◌}
use Rattle.sv_wire.specs.Fields.{object_from}
use Rattle.sv_wire.specs.Steps.{in_turn}
use Rattle.sv_wire.proofs.Loop.{turn_front}
use Rattle.sv_wire.proofs.fields.objects_of.Given as goal

abbrev pub invariant-loop : goal.invariant-loop
invariant-loop l = turn_front l.objects (in_turn object_from (l.count - l.counter) l.least l.rest) ≡ in_turn object_from l.count 0 l.bytes
