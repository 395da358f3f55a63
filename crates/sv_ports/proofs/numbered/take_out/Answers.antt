-- By the number's place.
use Rattle.std.proofs.Common.{◌∙◌, sym, ap, slice_set, get_or, Option, None}
use Rattle.sv_ports.proofs.Tables.{item-none, item-at, with-none, with-at}
use Rattle.sv_ports.proofs.numbered.take_out.Goals as goal

pub returns-in_err-place-clause-item : goal.returns-in_err-place-clause-item
returns-in_err-place-clause-item g c = c.from_residual.ensures ∙ sym (item-none c.args.number c.args.places.now c.in_err-place.ensures)

pub returns-in_err-place-clause-left : goal.returns-in_err-place-clause-left
returns-in_err-place-clause-left g c = sym (with-none c.args.number None c.args.places.now c.in_err-place.ensures)

pub returns-clause-item : goal.returns-clause-item
returns-clause-item g c =
    let d = c.index-places-place.result in
    c.take.ensures.value
    ∙ sym (item-at c.args.number c.args.places.now c.in_ok-place.place d c.requires c.in_ok-place.ensures.0 (c.in_ok-place.ensures.1 d))

pub returns-clause-left : goal.returns-clause-left
returns-clause-left g c =
    let d = c.index-places-place.result in
    let xs = c.args.places.now in
    let i = c.in_ok-place.place in
    ap (λ (o : Option _). slice_set xs i (record { number = (get_or xs i d).number; item = o })) c.take.ensures.after
    ∙ with-at c.args.number None xs i d c.requires c.in_ok-place.ensures.0 (c.in_ok-place.ensures.1 d)
