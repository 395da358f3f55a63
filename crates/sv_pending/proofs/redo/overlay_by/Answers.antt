-- What is proved by hand of `overlay_by`.
use Rattle.std.proofs.Common.{◌<◌, List, length, None, ap, sym, ◌∙◌, arith}
use Rattle.std.specs.Prelude.{ℤ}
use Rattle.sv_world.specs.Sets.{write_set}
use Rattle.sv_pending.proofs.Overlays.{entry}
use Rattle.sv_pending.proofs.Places.{placed_in, not_placed, value_placed, overlay_placed, overlay_passed, overlay_value}
use Rattle.sv_pending.proofs.redo.overlay_by.Goals as goal

pub returns-in_default : goal.returns-in_default
returns-in_default c =
    let x = c.args.object.0 in
    let ws = write_set c.args.made.now.action in
    sym (overlay_passed (entry c.args.made.now c.args.kept.now) x (not_placed x ws (sym c.place_of.ensures ∙ c.in_default.is)))

pub bounds-as_slice-place : goal.bounds-as_slice-place
bounds-as_slice-place c =
    let whole = rw c.in-Some-kept.is at c.requires in
    rw c.as_slice.ensures (value_placed c.args.object.0 _ (write_set c.args.made.now.action) _ whole (sym c.place_of.ensures ∙ c.in-Some.is)).0

pub offset_bounds-as_slice-place : goal.offset_bounds-as_slice-place
offset_bounds-as_slice-place c =
    let whole = rw c.in-Some-kept.is at c.requires in
    let below : c.in-Some.place < length c.in-Some-kept.values = (value_placed c.args.object.0 _ (write_set c.args.made.now.action) _ whole (sym c.place_of.ensures ∙ c.in-Some.is)).0 in
    omega (arith, c.as_slice.type_inv, ap (λ (vs : List (List ℤ)). length vs) c.as_slice.ensures)

pub returns-in-None : goal.returns-in-None
returns-in-None c =
    let x = c.args.object.0 in
    rw c.in-None.is (sym (overlay_placed (entry c.args.made.now None) x (placed_in x _ (write_set c.args.made.now.action) (sym c.place_of.ensures ∙ c.in-Some.is))))

pub returns-in-Some-kept : goal.returns-in-Some-kept
returns-in-Some-kept c =
    let whole = rw c.in-Some-kept.is at c.requires in
    let values = rw c.as_slice.ensures at c.index-as_slice-place.is in
    overlay_value (entry c.args.made.now c.args.kept.now) c.args.object.0 _ _ _ c.in-Some-kept.is whole (sym c.place_of.ensures ∙ c.in-Some.is) values
