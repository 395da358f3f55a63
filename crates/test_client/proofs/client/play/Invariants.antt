-- The client stays the same.
use Rattle.std.proofs.Common.{◌≡◌}
use Rattle.test_client.proofs.client.play.Given as goal

abbrev pub invariant-loop-index : goal.invariant-loop-index
invariant-loop-index l = l.client.who ≡ l.fn.client.who
