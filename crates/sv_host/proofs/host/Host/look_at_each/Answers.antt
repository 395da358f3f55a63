-- One after the other.
use Rattle.std.proofs.Common.{refl}
use Rattle.sv_host.proofs.Joined.{nobody_same, nobody_then}
use Rattle.sv_host.proofs.Written.{continues_same, continues_then}
use Rattle.sv_host.proofs.host.Host.look_at_each.Goals as goal

pub loop-number-init : goal.loop-number-init
loop-number-init g c = record {
  served = c.requires.served;
  written = λ told are. are;
  goes = continues_same refl;
  nobody = nobody_same refl refl;
}

pub returns-in_err-look_at-clause-nobody : goal.returns-in_err-look_at-clause-nobody
returns-in_err-look_at-clause-nobody g c = nobody_then c.loop-number.invariant.nobody c.look_at.ensures.nobody

pub loop-number-preserved : goal.loop-number-preserved
loop-number-preserved g c = record {
  served = c.in_ok-look_at.ensures.served;
  written = λ told are. c.in_ok-look_at.ensures.written told (c.loop-number.invariant.written told are);
  goes = continues_then c.loop-number.invariant.goes c.in_ok-look_at.ensures.goes;
  nobody = nobody_then c.loop-number.invariant.nobody c.in_ok-look_at.ensures.nobody;
}
