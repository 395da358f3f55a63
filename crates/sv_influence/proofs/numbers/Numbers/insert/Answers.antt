-- What the check leaves to prove of `Numbers::insert`.
use Rattle.std.proofs.Common.{◌≡◌, ℕ, true, List, [], ◌∷◌, insert, refl, sym, ◌∙◌, ap, subst}
use Rattle.sv_world.specs.Control.{is_in}
use Rattle.sv_world.specs.Faults.{is_ascending}
use Rattle.sv_world.proofs.Ascending.{ascending-push}
use Rattle.sv_influence.proofs.Takes.{is_in-swap}
use Rattle.sv_influence.proofs.Places.{insert-searched, insert-result, is_in-searched, is_in-known, insert-members}
use Rattle.sv_influence.proofs.numbers.Numbers.insert.Goals as goal

pub invariant_of-self-then-is_below : goal.invariant_of-self-then-is_below
invariant_of-self-then-is_below c =
    subst (λ (xs : List ℕ). is_ascending xs ≡ true) (sym c.in_ok-push.ensures.ok)
    (ascending-push c.self.inside.items.items c.args.number c.self.invariant
    (λ j m. c.if-is_below.ensures refl j (subst (λ (xs : List ℕ). is_in j xs ≡ true) c.self.view_is m)))

pub returns-then-is_below : goal.returns-then-is_below
returns-then-is_below c = λ j.
    ap (is_in j) c.in_ok-push.ensures.ok
    ∙ is_in-swap j c.self.inside.items.items (c.args.number ∷ [])
    ∙ ap (λ (xs : List ℕ). is_in j (c.args.number ∷ xs)) c.self.view_is

pub invariant_of-self-in-Err : goal.invariant_of-self-in-Err
invariant_of-self-in-Err c =
    insert-searched c.self.inside.items.items c.deref.result.now c.insert.new.self.items c.args.number c.in-Err.place c.insert.result c.self.invariant
    c.deref.ensures c.in-Err.ensures.position
    (insert-result c.insert.result c.insert.new.self c.self.inside.items (λ v. v.items) (insert c.self.inside.items.items c.in-Err.place c.args.number) c.insert.ensures.ok c.insert.ensures.err)

pub returns-in-Ok : goal.returns-in-Ok
returns-in-Ok c =
    rw (← c.self.view_is)
    (is_in-known c.args.number c.self.inside.items.items
    (is_in-searched c.self.inside.items.items c.deref.result.now c.args.number c.in-Ok.field-0 c.self.invariant c.deref.ensures c.in-Ok.ensures.position))

pub returns-in_ok-insert-in-Err : goal.returns-in_ok-insert-in-Err
returns-in_ok-insert-in-Err c =
    rw (← c.self.view_is)
    (λ j. ap (is_in j) c.in_ok-insert-in-Err.ensures.ok ∙ insert-members c.self.inside.items.items c.in-Err.place c.args.number j)
