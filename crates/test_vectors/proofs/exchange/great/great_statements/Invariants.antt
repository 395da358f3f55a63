-- So many statements stand there.
use Rattle.std.proofs.Common.{◌≡◌}
use Rattle.test_vectors.specs.Worked.{great_body}
use Rattle.test_vectors.proofs.exchange.great.great_statements.Given as goal

abbrev pub invariant-loop : goal.invariant-loop
invariant-loop l = l.body ≡ great_body l.counter
