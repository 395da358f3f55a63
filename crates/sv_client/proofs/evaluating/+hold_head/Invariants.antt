-- The measure of `hold_head`.
use Rattle.std.proofs.Common.{length}
use Rattle.sv_client.proofs.evaluating.+hold_head.Given as goal

abbrev pub decreases-hold_head : goal.decreases-hold_head
decreases-hold_head l = length l.head.now
