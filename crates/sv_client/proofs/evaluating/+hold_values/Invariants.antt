-- The measure of `hold_values`.
use Rattle.std.proofs.Common.{length}
use Rattle.sv_client.proofs.evaluating.+hold_values.Given as goal

abbrev pub decreases-hold_values : goal.decreases-hold_values
decreases-hold_values l = length l.objects.now
