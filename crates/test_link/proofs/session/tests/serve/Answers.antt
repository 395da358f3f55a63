-- What is proved by hand of `serve`.
use Rattle.std.proofs.Common.{rules, ◌≡◌, [], ◌∷◌, map, subst, ◌<◌, ℕ}
use Rattle.sv_lock.proofs.Ended.{one_ended}
use Rattle.test_link.proofs.session.tests.serve.Goals as goal

pub close-requires-clause-ended : goal.close-requires-clause-ended
close-requires-clause-ended g c =
    let keeper = c.join.new.keeper in
    let made : keeper.made ≡ 1 = search rules in
    let numbers : map (λ x. x.0) keeper.ended ≡ 0 ∷ [] = search rules in
    λ n lt. one_ended _ numbers n (subst (λ (m : ℕ). n < m) made lt)
