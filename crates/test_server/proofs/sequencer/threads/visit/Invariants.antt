-- The pass stays that of its lock and session.
use Rattle.std.proofs.Common.{◌≡◌}
use Rattle.test_server.proofs.sequencer.threads.visit.Given as goal

abbrev pub invariant-loop : goal.invariant-loop
invariant-loop g l =
    (l.pass.lock ≡ l.fn.pass.lock) × (l.pass.session ≡ l.fn.pass.session) × (l.pass.base ≡ l.fn.pass.base)
