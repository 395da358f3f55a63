-- The base values to see are those read as committed.
use Rattle.std.proofs.Common.{suc}
use Rattle.sv_world.specs.Control.{with_reading, up_to}
use Rattle.sv_world.proofs.Bases.{head_for-ascending}
use Rattle.sv_world.proofs.Seeing.{see_head-iff}
use Rattle.sv_world.proofs.cuts.base_values_to_see_are_those_read_as_committed.Goals as goal

pub returns-clause-ascending : goal.returns-clause-ascending
returns-clause-ascending c objects A d s g xs n = head_for-ascending objects (with_reading A n xs) d (up_to n s) g (suc n)

pub returns-clause-exactly : goal.returns-clause-exactly
returns-clause-exactly c = see_head-iff
