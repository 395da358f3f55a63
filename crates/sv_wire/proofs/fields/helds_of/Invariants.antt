-- The loop invariant of `helds_of`.
use Rattle.std.proofs.Common.{◌≡◌, ◌-◌}
use Rattle.sv_wire.specs.Fields.{held_from}
use Rattle.sv_wire.specs.Steps.{in_turn}
use Rattle.sv_wire.proofs.Loop.{turn_front}
use Rattle.sv_wire.proofs.fields.helds_of.Given as goal

abbrev pub invariant-loop : goal.invariant-loop
invariant-loop l = turn_front l.head (in_turn held_from (l.count - l.counter) l.least l.rest) ≡ in_turn held_from l.count 0 l.bytes
