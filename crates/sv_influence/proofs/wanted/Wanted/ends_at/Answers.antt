-- What the check leaves to prove of `Wanted::ends_at`.
use Rattle.std.proofs.Common.{◌≡◌, true, List, ℕ, subst, eqb-true}
use Rattle.sv_world.specs.Control.{is_in}
use Rattle.sv_influence.proofs.Places.{is_in-last}
use Rattle.sv_influence.proofs.wanted.Wanted.ends_at.Goals as goal

pub returns-in-Some : goal.returns-in-Some
returns-in-Some c = λ t.
    subst (λ (xs : List ℕ). is_in c.args.pos xs ≡ true) c.self.view_is
    (is_in-last c.self.inside.items.items c.deref.result.now c.in-Some.last.now c.args.pos c.deref.ensures.0
    c.in-Some.ensures.item.3.0 c.in-Some.ensures.item.1 (eqb-true c.in-Some.last.now c.args.pos t))
