-- What gets smaller in `Wanted::place`.
use Rattle.std.proofs.Common.{length}
use Rattle.sv_influence.proofs.wanted.Wanted.+place.Given as goal

abbrev pub decreases-place : goal.decreases-place
decreases-place l = length l.self.now
