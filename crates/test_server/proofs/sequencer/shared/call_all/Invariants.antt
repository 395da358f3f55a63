-- The pass stays that of its lock and session.
use Rattle.std.proofs.Common.{◌≡◌}
use Rattle.test_server.proofs.sequencer.shared.call_all.Given as goal

abbrev pub invariant-loop-line : goal.invariant-loop-line
invariant-loop-line g l =
    (l.pass.lock ≡ l.fn.pass.lock) × (l.pass.session ≡ l.fn.pass.session) × (l.pass.base ≡ l.fn.pass.base)
