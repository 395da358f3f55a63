-- What the check leaves to prove of `knows_them`.
use Rattle.sv_core.proofs.Knowing.{observed-low}
use Rattle.sv_core.proofs.see.knows_them.Goals as goal

pub knows_all-requires-clause-objects : goal.knows_all-requires-clause-objects
knows_all-requires-clause-objects g c = observed-low c.args.queue.now.shape.objects c.args.objects.now c.requires.objects
