-- So many items stand there.
use Rattle.std.proofs.Common.{◌≡◌}
use Rattle.test_vectors.specs.Worked.{great_items}
use Rattle.test_vectors.proofs.exchange.great.great_list.Given as goal

abbrev pub invariant-loop : goal.invariant-loop
invariant-loop l = l.items ≡ great_items l.counter
