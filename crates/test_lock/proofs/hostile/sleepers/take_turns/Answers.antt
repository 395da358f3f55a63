-- What is proved by hand of `take_turns`.
use Rattle.std.proofs.Common.{rules, ◌≡◌, [], ◌∷◌, map, subst, ◌<◌, ℕ}
use Rattle.sv_lock.proofs.Ended.{two_ended}
use Rattle.test_lock.proofs.hostile.sleepers.take_turns.Goals as goal

pub close-made-requires-clause-ended : goal.close-made-requires-clause-ended
close-made-requires-clause-ended g c =
    let keeper = c.join-2.new.keeper in
    let made : keeper.made ≡ 2 = search rules in
    let numbers : map (λ x. x.0) keeper.ended ≡ 0 ∷ 1 ∷ [] = search rules in
    λ n lt. two_ended _ numbers n (subst (λ (m : ℕ). n < m) made lt)
