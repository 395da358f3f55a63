-- Each call has fewer threads to start than the one that makes it.
use Rattle.std.proofs.Common.{◌+◌, ◌*◌}
use Rattle.test_lock.proofs.threads.+crowd+fn-crowd-join+arg3.Given as goal

abbrev pub decreases-crowd : goal.decreases-crowd
decreases-crowd g l = 2 * l.threads

abbrev pub decreases-join+arg3 : goal.decreases-join+arg3
decreases-join+arg3 g l = 2 * l.rest + 1
