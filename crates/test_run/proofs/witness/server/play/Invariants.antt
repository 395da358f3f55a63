-- The server stays as it was opened.
use Rattle.std.proofs.Common.{◌≡◌}
use Rattle.test_run.proofs.witness.server.play.Given as goal

abbrev pub invariant-loop-line : goal.invariant-loop-line
invariant-loop-line l = l.witness.rules ≡ l.fn.witness.rules
