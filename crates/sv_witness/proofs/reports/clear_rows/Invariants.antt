-- The loop invariant of `clear_rows`.
use Rattle.std.proofs.Common.{◌≡◌, ◌<◌, ℕ, get_or}
use Rattle.sv_witness.specs.Kept.{no_row}
use Rattle.sv_witness.proofs.reports.clear_rows.Given as goal

abbrev pub invariant-loop-before : goal.invariant-loop-before
invariant-loop-before l = (p : ℕ) → l.last < p → get_or l.rows.items p no_row ≡ get_or l.initial.rows.items p no_row
