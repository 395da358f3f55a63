-- An action that no cause applies to is good.
use Rattle.std.proofs.Common.{sym}
use Rattle.sv_world.proofs.Good.{good_of_none}
use Rattle.sv_world.proofs.check.check_action.Goals as goal

pub returns-in-None-clause-good : goal.returns-in-None-clause-good
returns-in-None-clause-good c = good_of_none c.args.shape c.args.action.now (sym c.in-None.ensures)
