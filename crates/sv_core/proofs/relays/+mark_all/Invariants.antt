-- What gets smaller in `mark_all`.
use Rattle.std.proofs.Common.{length}
use Rattle.sv_core.proofs.relays.+mark_all.Given as goal

abbrev pub decreases-mark_all : goal.decreases-mark_all
decreases-mark_all l = length l.positions.now
