-- What the check leaves to prove of `Numbers::is_below`.
use Rattle.std.proofs.Common.{◌≡◌, ℕ, true, List, sym, subst}
use Rattle.std.proofs.lemmas.Bool.{ltb-true}
use Rattle.sv_world.specs.Control.{is_in}
use Rattle.sv_influence.proofs.Places.{below-last}
use Rattle.sv_influence.proofs.numbers.Numbers.is_below.Goals as goal

pub returns-in-Some : goal.returns-in-Some
returns-in-Some c = λ t j m.
    below-last c.self.inside.items.items c.deref.result.now c.in-Some.last.now c.args.number c.self.invariant c.deref.ensures
    c.in-Some.ensures.item.3.0 c.in-Some.ensures.item.1 (ltb-true c.in-Some.last.now c.args.number t)
    j (subst (λ (xs : List ℕ). is_in j xs ≡ true) (sym c.self.view_is) m)
