-- What the check leaves to prove of `Wanted::place`.
use Rattle.std.proofs.Common.{◌≡◌, ◌∷◌, ◌++◌, ℕ, true, List, [], sym, ◌∙◌, ap, subst, arith}
use Rattle.sv_world.specs.Control.{is_in}
use Rattle.sv_world.specs.Faults.{is_ascending}
use Rattle.sv_influence.proofs.Growth.{ascending-last}
use Rattle.sv_influence.proofs.Placed.{under-placed, under-all, placed-under, placed-known, placed-over}
use Rattle.sv_influence.proofs.wanted.Wanted.+place.Goals as goal

pub push-requires-then-top-pos-clause-above : goal.push-requires-then-top-pos-clause-above
push-requires-then-top-pos-clause-above t c =
    under-placed c.pop.new.self c.place.new.self c.in-Some.top c.args.pos
    (subst (λ (xs : List ℕ). is_ascending xs ≡ true) c.in-Some.ensures.greatest c.in-Some.ensures.ascending) (omega arith) c.place.ensures.added

pub returns-then-top-pos-clause-added : goal.returns-then-top-pos-clause-added
returns-then-top-pos-clause-added t c = λ j.
    ap (is_in j) c.push-then-top-pos.ensures
    ∙ placed-under c.pop.new.self c.place.new.self c.in-Some.top c.args.pos c.place.ensures.added j
    ∙ ap (λ (xs : List ℕ). is_in j (c.args.pos ∷ xs)) (sym c.in-Some.ensures.greatest)

pub push-requires-2-clause-above : goal.push-requires-2-clause-above
push-requires-2-clause-above t c =
    ascending-last c.pop.new.self c.in-Some.top (subst (λ (xs : List ℕ). is_ascending xs ≡ true) c.in-Some.ensures.greatest c.in-Some.ensures.ascending)

pub push-requires-then-top-pos-2-clause-above : goal.push-requires-then-top-pos-2-clause-above
push-requires-then-top-pos-2-clause-above t c = λ j m.
    under-all c.pop.new.self c.in-Some.top c.args.pos
    (subst (λ (xs : List ℕ). is_ascending xs ≡ true) c.in-Some.ensures.greatest c.in-Some.ensures.ascending) (omega arith) j
    (subst (λ (xs : List ℕ). is_in j xs ≡ true) c.push-2.ensures m)

pub returns-then-top-pos-2-clause-added : goal.returns-then-top-pos-2-clause-added
returns-then-top-pos-2-clause-added t c = λ j.
    ap (is_in j) c.push-then-top-pos-2.ensures
    ∙ ap (λ (xs : List ℕ). is_in j (xs ++ c.args.pos ∷ [])) c.push-2.ensures
    ∙ placed-over c.pop.new.self c.in-Some.top c.args.pos j
    ∙ ap (λ (xs : List ℕ). is_in j (c.args.pos ∷ xs)) (sym c.in-Some.ensures.greatest)

pub returns-else-top-pos-2-clause-added : goal.returns-else-top-pos-2-clause-added
returns-else-top-pos-2-clause-added t c = λ j.
    ap (is_in j) c.push-2.ensures
    ∙ placed-known c.pop.new.self c.in-Some.top c.args.pos (omega arith) j
    ∙ ap (λ (xs : List ℕ). is_in j (c.args.pos ∷ xs)) (sym c.in-Some.ensures.greatest)
