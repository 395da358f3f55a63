-- What gets smaller in `give_all`.
use Rattle.std.proofs.Common.{length}
use Rattle.sv_core.proofs.relays.+give_all.Given as goal

abbrev pub decreases-give_all : goal.decreases-give_all
decreases-give_all l = length l.head.now
