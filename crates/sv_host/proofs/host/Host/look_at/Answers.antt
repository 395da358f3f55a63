-- It waits on.
use Rattle.std.proofs.Common.{refl}
use Rattle.sv_host.proofs.Joined.{nobody_same}
use Rattle.sv_host.proofs.host.Host.look_at.Goals as goal

pub returns-in_err-push-in-Until-clause-nobody : goal.returns-in_err-push-in-Until-clause-nobody
returns-in_err-push-in-Until-clause-nobody g c = nobody_same refl refl

pub returns-in_ok-push-in-Until-clause-nobody : goal.returns-in_ok-push-in-Until-clause-nobody
returns-in_ok-push-in-Until-clause-nobody g c = nobody_same refl refl
