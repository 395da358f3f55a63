-- The text so far and that of the values left are the whole.
use Rattle.std.proofs.Common.{◌≡◌, ◌++◌, string_bytes, drop}
use Rattle.sv_report.specs.Report.{value_lines}
use Rattle.sv_report.proofs.values.append_value_lines.Given as goal

abbrev pub invariant-loop-object : goal.invariant-loop-object
invariant-loop-object l = string_bytes l.out ++ value_lines l.object-counter (drop l.object-counter l.values) ≡ string_bytes l.fn.out ++ value_lines 0 l.values
