-- The base values are those that are read as committed.
use Rattle.sv_world.proofs.Bases.{head_for-ascending, head_for-iff}
use Rattle.sv_world.proofs.laws.base_values_are_those_read_as_committed.Goals as goal

pub returns-clause-ascending : goal.returns-clause-ascending
returns-clause-ascending c = head_for-ascending

pub returns-clause-exactly : goal.returns-clause-exactly
returns-clause-exactly c = head_for-iff
