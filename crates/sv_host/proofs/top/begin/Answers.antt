-- Its entries are the steward's.
use Rattle.sv_office.specs.Offices.{session_of}
use Rattle.sv_host.proofs.Joined.{steward_let_in}
use Rattle.sv_host.proofs.Written.{continues}
use Rattle.sv_host.proofs.top.begin.Goals as goal

pub returns-clause-goes : goal.returns-clause-goes
returns-clause-goes g c = continues c.begin.ensures.added

pub returns-clause-joins : goal.returns-clause-joins
returns-clause-joins g c = steward_let_in c.args.host.now.office.keeper.world.history (session_of c.args.host.now.office.steward) c.begin.ensures.added
