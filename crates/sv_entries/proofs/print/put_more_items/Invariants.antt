-- The loop invariant of `put_more_items`.
use Rattle.std.proofs.Common.{◌≡◌, ◌∷◌, ◌++◌, string_bytes, drop}
use Rattle.std.specs.List.{flat_map}
use Rattle.sv_wire.specs.declared.message.Item.{Item}
use Rattle.sv_entries.specs.Lines.{sent_item}
use Rattle.sv_entries.proofs.print.put_more_items.Given as goal

-- the text so far and that of the items left are the whole
abbrev pub invariant-loop-item : goal.invariant-loop-item
invariant-loop-item l = string_bytes l.out ++ flat_map (λ (i : Item). 32 ∷ sent_item i) (drop l.item-index l.items)
    ≡ string_bytes l.fn.out ++ flat_map (λ (i : Item). 32 ∷ sent_item i) l.items
