-- The values of so many objects stand there.
use Rattle.std.proofs.Common.{◌≡◌}
use Rattle.test_vectors.specs.Worked.{great_heads}
use Rattle.test_vectors.proofs.exchange.great.great_head.Given as goal

abbrev pub invariant-loop-object : goal.invariant-loop-object
invariant-loop-object l = l.head ≡ great_heads l.object
