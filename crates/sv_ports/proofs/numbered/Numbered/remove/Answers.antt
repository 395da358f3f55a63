-- By the number's place.
use Rattle.std.proofs.Common.{◌≡◌, List, ◌<◌, false, length, get_or, sym, ap, subst, ◌∙◌}
use Rattle.sv_ports.specs.declared.numbered.NumberedPlace.{NumberedPlace}
use Rattle.sv_ports.specs.Numbered.{IsByNumber, has_number, without}
use Rattle.sv_ports.proofs.Tables.{without-none, without-at, without-ascending}
use Rattle.sv_ports.proofs.numbered.Numbered.remove.Goals as goal

pub invariant_of-self : goal.invariant_of-self
invariant_of-self g c =
    let n = c.args.number in
    let xs = c.self.inside.places.items in
    let i = c.in-Some.place in
    let d = c.remove.result in
    let low : i < length xs = subst (λ (ys : List (NumberedPlace _)). i < length ys) c.deref.ensures.value c.in-Some.ensures.0 in
    let is : (get_or xs i d).number ≡ n = subst (λ (ys : List (NumberedPlace _)). (get_or ys i d).number ≡ n) c.deref.ensures.value (c.in-Some.ensures.1 d) in
    subst IsByNumber (sym (c.remove.ensures.items ∙ without-at n xs i d c.self.invariant low is)) (without-ascending n xs c.self.invariant)

pub returns-in-Some : goal.returns-in-Some
returns-in-Some g c =
    let n = c.args.number in
    let xs = c.self.inside.places.items in
    let i = c.in-Some.place in
    let d = c.remove.result in
    let low : i < length xs = subst (λ (ys : List (NumberedPlace _)). i < length ys) c.deref.ensures.value c.in-Some.ensures.0 in
    let is : (get_or xs i d).number ≡ n = subst (λ (ys : List (NumberedPlace _)). (get_or ys i d).number ≡ n) c.deref.ensures.value (c.in-Some.ensures.1 d) in
    c.remove.ensures.items ∙ without-at n xs i d c.self.invariant low is ∙ ap (without n) c.self.view_is

pub returns-in_default : goal.returns-in_default
returns-in_default g c =
    sym (without-none c.args.number c.args.self.now
    (subst (λ (xs : List (NumberedPlace _)). has_number c.args.number xs ≡ false) (c.deref.ensures.value ∙ c.self.view_is) c.in_default.ensures))
