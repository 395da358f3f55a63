-- The loop invariant of `items_of`.
use Rattle.std.proofs.Common.{◌≡◌, ◌-◌}
use Rattle.sv_wire.specs.Messages.{item_from}
use Rattle.sv_wire.specs.Steps.{several}
use Rattle.sv_wire.proofs.Loop.{with_front}
use Rattle.sv_wire.proofs.actions.items_of.Given as goal

abbrev pub invariant-loop : goal.invariant-loop
invariant-loop l = with_front l.items (several item_from (l.count - l.counter) l.rest) ≡ several item_from l.count l.bytes
