-- It is not yet time.
use Rattle.std.proofs.Common.{refl}
use Rattle.sv_host.proofs.Joined.{nobody_same}
use Rattle.sv_host.proofs.host.Host.look_for_idle.Goals as goal

pub returns-then-self-clause-nobody : goal.returns-then-self-clause-nobody
returns-then-self-clause-nobody g c = nobody_same refl refl
