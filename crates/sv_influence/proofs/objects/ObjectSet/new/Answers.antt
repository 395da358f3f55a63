-- What the check leaves to prove of `ObjectSet::new`.
use Rattle.sv_influence.proofs.Bits.{has_object-none}
use Rattle.sv_influence.proofs.objects.ObjectSet.new.Goals as goal

pub returns : goal.returns
returns c = has_object-none
