-- By the number's place.
use Rattle.std.proofs.Common.{◌≡◌, ◌∙◌, sym, ap, subst, List, ◌<◌, false, length, get_or, option_copied}
use Rattle.sv_ports.specs.declared.numbered.NumberedPlace.{NumberedPlace}
use Rattle.sv_ports.specs.Numbered.{has_number, item_of}
use Rattle.sv_ports.proofs.Tables.{item-none, item-at}
use Rattle.sv_ports.proofs.numbered.Numbered.get.Goals as goal

pub returns-in_err-place : goal.returns-in_err-place
returns-in_err-place g c =
    ap option_copied c.from_residual.ensures
    ∙ sym (item-none c.args.number c.args.self.now (subst (λ (xs : List (NumberedPlace _)). has_number c.args.number xs ≡ false) (c.deref.ensures.value ∙ c.self.view_is) c.in_err-place.ensures))

pub returns : goal.returns
returns g c =
    let n = c.args.number in
    let xs = c.self.inside.places.items in
    let i = c.in_ok-place.place in
    let d = c.index.result.now in
    let low : i < length xs = subst (λ (ys : List (NumberedPlace _)). i < length ys) c.deref.ensures.value c.in_ok-place.ensures.0 in
    let is : (get_or xs i d).number ≡ n = subst (λ (ys : List (NumberedPlace _)). (get_or ys i d).number ≡ n) c.deref.ensures.value (c.in_ok-place.ensures.1 d) in
    c.as_ref.ensures.value ∙ ap (λ (p : NumberedPlace _). p.item) c.index.ensures ∙ sym (item-at n xs i d c.self.invariant low is) ∙ ap (item_of n) c.self.view_is
