-- The loop invariant of `put_items`.
use Rattle.std.proofs.Common.{◌≡◌, ◌++◌, take, flat_map}
use Rattle.sv_wire.specs.Spelling.{item_bytes}
use Rattle.sv_wire.proofs.encoding.put_items.Given as goal

abbrev pub invariant-loop-item : goal.invariant-loop-item
invariant-loop-item l = l.out.items ≡ l.fn.out.items ++ flat_map item_bytes (take l.item-index l.items)
