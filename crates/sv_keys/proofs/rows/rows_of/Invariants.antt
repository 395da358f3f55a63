-- The keys so far and those of the lines that are left are all; a line that is wrong is left.
use Rattle.std.proofs.Common.{length}
use Rattle.sv_keys.proofs.Walk.{IsWalk}
use Rattle.sv_keys.proofs.rows.rows_of.Given as goal

abbrev pub invariant-loop-rest : goal.invariant-loop-rest
invariant-loop-rest l = IsWalk l.bytes l.rest l.rows.items l.number

abbrev pub decreases-loop-rest : goal.decreases-loop-rest
decreases-loop-rest l = length l.rest
