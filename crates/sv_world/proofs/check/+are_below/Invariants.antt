-- What gets smaller in `are_below`.
use Rattle.std.proofs.Common.{length}
use Rattle.sv_world.proofs.check.+are_below.Given as goal

abbrev pub decreases-are_below : goal.decreases-are_below
decreases-are_below l = length l.numbers.now
