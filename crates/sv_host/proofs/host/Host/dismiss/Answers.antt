-- There is none.
use Rattle.sv_host.proofs.Joined.{nobody_office}
use Rattle.sv_host.proofs.host.Host.dismiss.Goals as goal

pub returns-in_default-clause-nobody : goal.returns-in_default-clause-nobody
returns-in_default-clause-nobody g c = nobody_office c.in_default.ensures.office
