-- The loop invariant of `is_bad_head`.
use Rattle.std.proofs.Common.{◌≡◌, drop}
use Rattle.sv_client.specs.Taking.{is_bad_head}
use Rattle.sv_client.proofs.checks.is_bad_head.Given as goal

abbrev pub invariant-loop-held : goal.invariant-loop-held
invariant-loop-held l = is_bad_head l.shape (drop l.held-index l.head) ≡ is_bad_head l.shape l.head
