-- What is proved by hand of `add_nested`.
use Rattle.std.proofs.Common.{rules, ◌≡◌, arith}
use Rattle.test_lock.proofs.threads.add_nested.Goals as goal

pub close-requires-clause-ended : goal.close-requires-clause-ended
close-requires-clause-ended g c = λ n lt.
    let none_made : c.in-Ok.made.1.made ≡ 0 = search rules in
    c.nest.ensures.ended n (omega arith) lt
