-- The total so far with that of the values left is the whole; and it is no more than its values can make.
use Rattle.std.proofs.Common.{◌≡◌, ◌*◌, drop, pos, ◌+ℤ◌, neg_ℤ, ◌≤ℤ◌}
use Rattle.sv_report.specs.Summary.{total_of}
use Rattle.sv_report.proofs.totals.total_of.Given as goal

abbrev pub invariant-loop-value : goal.invariant-loop-value
invariant-loop-value l = record {
  sum : l.total +ℤ total_of l.attr (drop l.value-index l.values) ≡ total_of l.attr l.values;
  low : neg_ℤ (pos (9223372036854775808 * l.value-index)) ≤ℤ l.total;
  high : l.total ≤ℤ pos (9223372036854775808 * l.value-index);
}
