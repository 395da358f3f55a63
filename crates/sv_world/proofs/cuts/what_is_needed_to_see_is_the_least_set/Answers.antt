-- The positions needed to see are the least set.
use Rattle.std.proofs.Common.{◌≡◌, true, ℕ}
use Rattle.sv_world.proofs.Seeing.{see-iff, see-direct, see-closed, see-sound}
use Rattle.sv_world.proofs.cuts.what_is_needed_to_see_is_the_least_set.Goals as goal

pub returns-clause-exactly : goal.returns-clause-exactly
returns-clause-exactly c = see-iff

pub returns-clause-direct : goal.returns-clause-direct
returns-clause-direct c = see-direct

pub returns-clause-closed : goal.returns-clause-closed
returns-clause-closed c A d s xs n l k x = see-closed A d s xs n k x l

pub returns-clause-least : goal.returns-clause-least
returns-clause-least c A d s xs n p l = see-sound A d s xs n (λ (k : ℕ). p k ≡ true) l
