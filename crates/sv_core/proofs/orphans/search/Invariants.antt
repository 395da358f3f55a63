-- The loop invariant of `search`.
use Rattle.std.proofs.Common.{◌≡◌, ℕ, ◌≤◌, false}
use Rattle.sv_core.specs.Orphans.{is_orphan_in}
use Rattle.sv_core.proofs.orphans.search.Given as goal

abbrev pub invariant-loop-before : goal.invariant-loop-before
invariant-loop-before g l = (p : ℕ) → p ≤ l.before → is_orphan_in l.queue l.sessions p ≡ false
