-- What is proved by hand of `Pending::back`.
use Rattle.std.proofs.Common.{◌-◌, List, length, slice_get, Option, Some, sym, ap, ◌∙◌}
use Rattle.std.specs.Prelude.{ℤ}
use Rattle.sv_pending.specs.declared.made.Made.{Made}
use Rattle.sv_pending.proofs.Overlays.{last_paired}
use Rattle.sv_pending.proofs.pending.Pending.back.Goals as goal

pub returns : goal.returns
returns c =
    let ms = c.self.inside.made.items in
    let ks = c.self.inside.kept.items in
    rw (← c.self.view_is) (ap Some c.item_of.ensures
    ∙ sym (last_paired ms ks c.in_ok-made.made.now c.in_ok-kept.kept.now c.self.invariant.0
    (ap (λ (xs : List Made). slice_get xs (length xs - 1)) (sym c.deref.ensures.value) ∙ sym c.in_ok-made.ensures.value)
    (ap (λ (xs : List (Option (List (List ℤ)))). slice_get xs (length xs - 1)) (sym c.deref-2.ensures.value) ∙ sym c.in_ok-kept.ensures.value)))
