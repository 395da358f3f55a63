-- The measure of `are_same_values`.
use Rattle.std.proofs.Common.{length}
use Rattle.sv_client.proofs.same.+are_same_values.Given as goal

abbrev pub decreases-are_same_values : goal.decreases-are_same_values
decreases-are_same_values l = length l.values.now
