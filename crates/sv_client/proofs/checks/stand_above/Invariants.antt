-- The loop invariant of `stand_above`.
use Rattle.std.proofs.Common.{◌≡◌, nat_lt, drop}
use Rattle.std.specs.List.{list_any}
use Rattle.sv_wire.specs.declared.message.Item.{Item}
use Rattle.sv_client.proofs.checks.stand_above.Given as goal

abbrev pub invariant-loop-item : goal.invariant-loop-item
invariant-loop-item l = list_any (λ (i : Item). nat_lt l.last i.pos) (drop l.item-index l.items) ≡ list_any (λ (i : Item). nat_lt l.last i.pos) l.items
