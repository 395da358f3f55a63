-- The client stays the same.
use Rattle.std.proofs.Common.{◌≡◌}
use Rattle.test_client.proofs.client.rows.ten_pairs.Given as goal

abbrev pub invariant-loop-commit : goal.invariant-loop-commit
invariant-loop-commit g l = l.client.who.shape.objects ≡ 2
