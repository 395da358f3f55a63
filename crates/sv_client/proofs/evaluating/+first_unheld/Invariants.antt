-- The measure of `first_unheld`.
use Rattle.std.proofs.Common.{length}
use Rattle.sv_client.proofs.evaluating.+first_unheld.Given as goal

abbrev pub decreases-first_unheld : goal.decreases-first_unheld
decreases-first_unheld l = length l.objects.now
