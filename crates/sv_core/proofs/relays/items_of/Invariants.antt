-- The loop invariant of `items_of`.
use Rattle.std.proofs.Common.{◌≡◌, map, take}
use Rattle.sv_core.specs.Relays.{item_in}
use Rattle.sv_core.proofs.relays.items_of.Given as goal

abbrev pub invariant-loop-pos : goal.invariant-loop-pos
invariant-loop-pos g l = l.items.items ≡ map (item_in l.queue) (take l.pos-index l.positions)
