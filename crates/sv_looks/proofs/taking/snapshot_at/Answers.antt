-- The snapshot of a look at a position.
use Rattle.std.proofs.Common.{◌<◌, option_copied, sym, ap, subst, ◌∙◌}
use Rattle.sv_pending.specs.Made.{ReadsWithin}
use Rattle.sv_wire.specs.declared.message.Item.{Item}
use Rattle.sv_client.specs.Taking.{told}
use Rattle.sv_client.specs.Evaluating.{AreWithin}
use Rattle.sv_looks.proofs.Lasts.{last_has}
use Rattle.sv_looks.proofs.taking.snapshot_at.Goals as goal

pub values_below-requires-clause-objects : goal.values_below-requires-clause-objects
values_below-requires-clause-objects c =
    let n = c.args.client.now.who.shape.objects in
    subst (AreWithin n) (sym c.as_slice.ensures)
    (last_has (λ (i : Item). ReadsWithin n i.action) c.args.items.now c.in-Some.item.now c.requires.reads (sym c.last_item.ensures ∙ ap option_copied c.in-Some.is))

pub values_below-requires-clause-above : goal.values_below-requires-clause-above
values_below-requires-clause-above c =
    last_has (λ (i : Item). told c.args.client.now.events < i.pos) c.args.items.now c.in-Some.item.now c.requires.above (sym c.last_item.ensures ∙ ap option_copied c.in-Some.is)
