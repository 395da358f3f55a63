-- What the check leaves to prove of `ObjectSet::remove`.
use Rattle.std.proofs.Common.{rules}
use Rattle.sv_influence.proofs.Bits.{has_object-remove}
use Rattle.sv_influence.proofs.objects.ObjectSet.remove.Goals as goal

pub returns : goal.returns
returns c x = has_object-remove c.args.self.now.words c.args.object.0 x (search rules) c.requires
