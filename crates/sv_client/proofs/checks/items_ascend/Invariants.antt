-- The loop invariant of `items_ascend`.
use Rattle.std.proofs.Common.{◌≡◌, ◌∷◌, map, drop}
use Rattle.sv_world.specs.Faults.{is_ascending}
use Rattle.sv_wire.specs.declared.message.Item.{Item}
use Rattle.sv_client.proofs.checks.items_ascend.Given as goal

abbrev pub invariant-loop-item : goal.invariant-loop-item
invariant-loop-item l =
    is_ascending (l.last ∷ map (λ (i : Item). i.pos) (drop l.item-index l.rest)) ≡ is_ascending (map (λ (i : Item). i.pos) l.items)
