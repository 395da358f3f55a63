-- The measure of `bytes_after`.
use Rattle.sv_log.proofs.replay.+bytes_after.Given as goal

abbrev pub decreases-bytes_after : goal.decreases-bytes_after
decreases-bytes_after l = l.count
