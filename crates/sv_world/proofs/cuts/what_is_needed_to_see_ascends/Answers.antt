-- The positions needed to see ascend.
use Rattle.std.proofs.Common.{arith}
use Rattle.sv_world.proofs.Seeing.{see-ascending, see-bounds, see-none, see-ends}
use Rattle.sv_world.proofs.cuts.what_is_needed_to_see_ascends.Goals as goal

pub returns-clause-ascending : goal.returns-clause-ascending
returns-clause-ascending c = see-ascending

pub returns-clause-within : goal.returns-clause-within
returns-clause-within c = see-bounds

pub returns-clause-none : goal.returns-clause-none
returns-clause-none c A d s xs = see-none A d s xs d (omega arith)

pub returns-clause-relayed : goal.returns-clause-relayed
returns-clause-relayed c = see-ends
