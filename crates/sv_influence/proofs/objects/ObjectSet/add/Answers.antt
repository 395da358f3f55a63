-- What the check leaves to prove of `ObjectSet::add`.
use Rattle.std.proofs.Common.{rules}
use Rattle.sv_influence.proofs.Bits.{has_object-add}
use Rattle.sv_influence.proofs.objects.ObjectSet.add.Goals as goal

pub returns : goal.returns
returns c x = has_object-add c.args.self.now.words c.args.object.0 x (search rules) c.requires
