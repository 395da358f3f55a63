-- Each call has fewer passes left.
use Rattle.test_lock.proofs.threads.+nest.Given as goal

abbrev pub decreases-nest : goal.decreases-nest
decreases-nest g l = l.left
