-- The loop invariant of `search`.
use Rattle.std.proofs.Common.{◌≡◌, ℕ, ◌≤◌, false}
use Rattle.sv_witness.specs.Due.{is_due_in}
use Rattle.sv_witness.proofs.due.search.Given as goal

abbrev pub invariant-loop-before : goal.invariant-loop-before
invariant-loop-before g l = (p : ℕ) → p ≤ l.before → is_due_in l.queue l.reports l.asker.client l.asker.session p ≡ false
