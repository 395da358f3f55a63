-- The pass stays that of its lock and session.
use Rattle.std.proofs.Common.{◌≡◌}
use Rattle.test_lock.proofs.hostile.sleepers.call_in_turn.Given as goal

abbrev pub invariant-loop-turn : goal.invariant-loop-turn
invariant-loop-turn g l = (l.pass.lock ≡ l.fn.pass.lock) × (l.pass.session ≡ l.fn.pass.session)
