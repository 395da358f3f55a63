-- The positions that a session lacks ascend.
use Rattle.std.proofs.Common.{arith}
use Rattle.sv_world.proofs.Needs.{needed-ascending, needed-bounds, needed-ends}
use Rattle.sv_world.proofs.laws.missing_influences_ascend.Goals as goal

pub returns-clause-ascending : goal.returns-clause-ascending
returns-clause-ascending c = needed-ascending

pub returns-clause-within : goal.returns-clause-within
returns-clause-within c A d s i j l h = needed-bounds A d s i l j h

pub returns-clause-ends : goal.returns-clause-ends
returns-clause-ends c A d s i l h = needed-ends A d s i (omega arith) h
