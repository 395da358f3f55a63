-- The measure of `evaluate_items`.
use Rattle.std.proofs.Common.{length}
use Rattle.sv_client.proofs.evaluating.+evaluate_items.Given as goal

abbrev pub decreases-evaluate_items : goal.decreases-evaluate_items
decreases-evaluate_items l = length l.items.now
