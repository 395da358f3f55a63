-- The loop invariant of `are_accepted`.
use Rattle.std.proofs.Common.{ℕ, ◌<◌, ◌≤◌, slice_index_or}
use Rattle.sv_journal.proofs.print.are_accepted.Given as goal

-- the positions so far are those of accepted actions
abbrev pub invariant-loop-pos : goal.invariant-loop-pos
invariant-loop-pos l = (k d : ℕ) → k < l.pos-index → (1 ≤ slice_index_or l.positions k d) × (slice_index_or l.positions k d ≤ l.count)
