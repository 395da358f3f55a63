-- The pass stays that of its lock and session.
use Rattle.std.proofs.Common.{◌≡◌}
use Rattle.test_lock.proofs.threads.add_up.Given as goal

abbrev pub invariant-loop-amount : goal.invariant-loop-amount
invariant-loop-amount g l =
    (l.pass.lock ≡ l.fn.pass.lock) × (l.pass.session ≡ l.fn.pass.session) × (l.pass.base ≡ l.fn.pass.base)
