-- One after the other.
use Rattle.std.proofs.Common.{refl}
use Rattle.sv_host.proofs.Joined.{nobody_same, nobody_then}
use Rattle.sv_host.proofs.Written.{continues_same, continues_then}
use Rattle.sv_host.proofs.host.Host.look_at_all.Goals as goal

pub loop-place-init : goal.loop-place-init
loop-place-init g c = record {
  served = c.requires.served;
  written = λ told are. are;
  goes = continues_same refl;
  nobody = nobody_same refl refl;
}

pub returns-in_err-dismiss_idle-clause-nobody : goal.returns-in_err-dismiss_idle-clause-nobody
returns-in_err-dismiss_idle-clause-nobody g c = nobody_then c.loop-place.invariant.nobody c.dismiss_idle.ensures.nobody

pub loop-place-preserved : goal.loop-place-preserved
loop-place-preserved g c = record {
  served = c.in_ok-dismiss_idle.ensures.served;
  written = λ told are. c.in_ok-dismiss_idle.ensures.written told (c.loop-place.invariant.written told are);
  goes = continues_then c.loop-place.invariant.goes c.in_ok-dismiss_idle.ensures.goes;
  nobody = nobody_then c.loop-place.invariant.nobody c.in_ok-dismiss_idle.ensures.nobody;
}
