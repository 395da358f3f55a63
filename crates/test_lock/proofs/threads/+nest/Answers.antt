-- What is proved by hand of `nest`.
use Rattle.std.proofs.Common.{rules, ◌≡◌, ◌+◌, [], ◌∷◌, ◌++◌}
use Rattle.sv_lock.proofs.Ended.{one_more_ended}
use Rattle.test_lock.proofs.threads.+nest.Goals as goal

pub returns-clause-ended : goal.returns-clause-ended
returns-clause-ended g t c =
    let first = c.args.keeper.now.made in
    let made : c.join.new.keeper.made ≡ c.nest.new.keeper.made = search rules in
    let ended : c.join.new.keeper.ended ≡ c.nest.new.keeper.ended ++ (first, c.ask.new.pass.mine) ∷ [] = search rules in
    let from : c.split-pass.new.keeper.made ≡ first + 1 = search rules in
    one_more_ended first _ _ _ _ _ ended made (λ n le lt. c.nest.ensures.ended n (rw from le) lt)
