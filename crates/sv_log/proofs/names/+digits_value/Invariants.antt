-- The measure of `digits_value`.
use Rattle.std.proofs.Common.{length}
use Rattle.sv_log.proofs.names.+digits_value.Given as goal

abbrev pub decreases-digits_value : goal.decreases-digits_value
decreases-digits_value l = length l.bytes.now
