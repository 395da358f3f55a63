-- What the check leaves to prove of `cut_of_many`.
use Rattle.std.proofs.Common.{arith}
use Rattle.test_queue.proofs.shown.cut_of_many.Goals as goal

pub returns : goal.returns
returns g c = record { looks = λ h. (let t = c.cut.ensures.ticks 10 h in omega arith) }
