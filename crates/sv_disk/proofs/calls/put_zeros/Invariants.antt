-- The measure of `put_zeros`.
use Rattle.sv_disk.proofs.calls.put_zeros.Given as goal

abbrev pub decreases-loop-left : goal.decreases-loop-left
decreases-loop-left l = l.left
