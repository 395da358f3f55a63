-- What is proved by hand of `crowd`.
use Rattle.std.proofs.Common.{rules, ◌≡◌, ◌+◌, [], ◌∷◌, ◌++◌}
use Rattle.sv_lock.proofs.Ended.{one_more_ended}
use Rattle.test_lock.proofs.threads.+crowd+fn-crowd-join+arg3.Goals as goal

pub returns-clause-ended : goal.returns-clause-ended
returns-clause-ended g t c =
    let first = c.args.keeper.made in
    let rest = c.join-pass.result.1.0 in
    let made : c.join.new.keeper.made ≡ rest.made = search rules in
    let ended : c.join.new.keeper.ended ≡ rest.ended ++ (first, c.join-pass.result.0.0.mine) ∷ [] = search rules in
    let from : c.split-pass.new.keeper.made ≡ first + 1 = search rules in
    one_more_ended first _ _ _ _ _ ended made (λ n le lt. c.join-pass.ensures.second.1.1 n (rw from le) lt)
