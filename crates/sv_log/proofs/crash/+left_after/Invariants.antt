-- The measure of `left_after`.
use Rattle.sv_log.proofs.crash.+left_after.Given as goal

abbrev pub decreases-left_after : goal.decreases-left_after
decreases-left_after l = l.count
