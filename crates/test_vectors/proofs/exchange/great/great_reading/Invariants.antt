-- So many objects stand there.
use Rattle.std.proofs.Common.{◌≡◌}
use Rattle.test_vectors.specs.Worked.{great_reads}
use Rattle.test_vectors.proofs.exchange.great.great_reading.Given as goal

abbrev pub invariant-loop-object : goal.invariant-loop-object
invariant-loop-object l = l.reads ≡ great_reads l.object
