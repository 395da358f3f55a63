-- The text so far and the lines of the attributes left are the whole.
use Rattle.std.proofs.Common.{◌≡◌, ◌-◌, ◌++◌, string_bytes}
use Rattle.sv_report.specs.Summary.{total_lines}
use Rattle.sv_report.proofs.totals.append_totals.Given as goal

abbrev pub invariant-loop-attr : goal.invariant-loop-attr
invariant-loop-attr l =
    string_bytes l.out ++ total_lines l.attr (l.attrs - l.attr) l.values ≡ string_bytes l.fn.out ++ total_lines 0 l.attrs l.values
