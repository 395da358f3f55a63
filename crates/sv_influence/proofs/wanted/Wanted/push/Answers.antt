-- What the check leaves to prove of `Wanted::push`.
use Rattle.std.proofs.Common.{◌≡◌, ℕ, true, List, sym, subst}
use Rattle.sv_world.specs.Control.{is_in}
use Rattle.sv_world.specs.Faults.{is_ascending}
use Rattle.sv_world.proofs.Ascending.{ascending-push}
use Rattle.sv_influence.proofs.wanted.Wanted.push.Goals as goal

pub invariant_of-self : goal.invariant_of-self
invariant_of-self c =
    subst (λ (xs : List ℕ). is_ascending xs ≡ true) (sym c.push.ensures.items)
    (ascending-push c.self.inside.items.items c.args.pos c.self.invariant
    (λ j m. c.requires.above j (subst (λ (xs : List ℕ). is_in j xs ≡ true) c.self.view_is m)))
