-- The loop invariant of `count_seated`.
use Rattle.std.proofs.Common.{◌≡◌, ◌+◌, ◌≤◌, drop}
use Rattle.sv_core.specs.Rows.{is_seated, count_rows}
use Rattle.sv_core.proofs.seats.count_seated.Given as goal

abbrev pub invariant-loop-slot : goal.invariant-loop-slot
invariant-loop-slot l = record {
  left : l.count + count_rows is_seated (drop l.slot l.rows) ≡ count_rows is_seated l.rows;
  few : l.count ≤ l.slot;
}
