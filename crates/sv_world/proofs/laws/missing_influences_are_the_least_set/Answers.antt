-- What a session lacks is the least set.
use Rattle.std.proofs.Common.{arith}
use Rattle.sv_world.proofs.Needs.{needed-iff, needed-closed_writer, needed-least}
use Rattle.sv_world.proofs.laws.missing_influences_are_the_least_set.Goals as goal

pub returns-clause-exactly : goal.returns-clause-exactly
returns-clause-exactly c A d s i j l h = needed-iff A d s i j (omega arith) h

pub returns-clause-closed : goal.returns-clause-closed
returns-clause-closed c = needed-closed_writer

pub returns-clause-least : goal.returns-clause-least
returns-clause-least c = needed-least
