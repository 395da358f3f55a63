-- The influence of a new action is the least set.
use Rattle.std.proofs.Common.{◌≡◌, ℕ, true, subst, sym, refl, suc, ◌+◌, ◌<◌, length, arith, add-one}
use Rattle.sv_world.specs.Control.{last_writer}
use Rattle.sv_world.proofs.Influences.{influence-iff, influence-sound, influence-cut, influence-ascending, influence-bounds, needed-appended}
use Rattle.sv_world.proofs.laws.influence_is_the_least_set.Goals as goal

pub returns-clause-exactly : goal.returns-clause-exactly
returns-clause-exactly c = influence-iff

pub returns-clause-least : goal.returns-clause-least
returns-clause-least c A d a p start step j h =
    influence-sound A d a (λ (k : ℕ). p k ≡ true)
    (λ x r l.
    let e : length A + 1 ≡ suc (length A) = omega arith in
    subst (λ (n : ℕ). p (last_writer A x n) ≡ true) e (start x r (subst (λ (n : ℕ). d < last_writer A x n) (sym e) l)))
    (λ k x q r l. step k x q r l refl) j h

pub returns-clause-cut : goal.returns-clause-cut
returns-clause-cut c = influence-cut

pub returns-clause-ascending : goal.returns-clause-ascending
returns-clause-ascending c = influence-ascending

pub returns-clause-within : goal.returns-clause-within
returns-clause-within c = influence-bounds

pub returns-clause-relayed : goal.returns-clause-relayed
returns-clause-relayed c A d a = rw add-one (needed-appended A d a)
