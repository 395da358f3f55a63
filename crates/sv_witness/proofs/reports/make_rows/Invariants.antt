-- The loop invariant of `make_rows`.
use Rattle.std.proofs.Common.{◌≡◌, ◌≤◌, ℕ, get_or, vec_len}
use Rattle.sv_witness.specs.Kept.{no_row}
use Rattle.sv_witness.proofs.reports.make_rows.Given as goal

abbrev pub invariant-loop : goal.invariant-loop
invariant-loop l = record {
  same : (p : ℕ) → get_or l.rows.items p no_row ≡ get_or l.initial.rows.items p no_row;
  count : l.counter ≤ vec_len l.rows;
}
