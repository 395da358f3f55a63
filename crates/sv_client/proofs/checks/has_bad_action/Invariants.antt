-- The loop invariant of `has_bad_action`.
use Rattle.std.proofs.Common.{◌≡◌, drop}
use Rattle.sv_client.specs.Taking.{has_bad_action}
use Rattle.sv_client.proofs.checks.has_bad_action.Given as goal

abbrev pub invariant-loop-item : goal.invariant-loop-item
invariant-loop-item l = has_bad_action l.shape (drop l.item-index l.items) ≡ has_bad_action l.shape l.items
