-- It is not idle.
use Rattle.std.proofs.Common.{refl}
use Rattle.sv_host.proofs.Joined.{nobody_same}
use Rattle.sv_host.proofs.host.Host.dismiss_idle.Goals as goal

pub returns-then-not-is_idle-clause-nobody : goal.returns-then-not-is_idle-clause-nobody
returns-then-not-is_idle-clause-nobody g c = nobody_same refl refl
