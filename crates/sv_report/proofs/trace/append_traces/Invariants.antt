-- The text so far and that of the traces left are the whole.
use Rattle.std.proofs.Common.{◌≡◌, ◌++◌, string_bytes, drop}
use Rattle.std.specs.List.{flat_map}
use Rattle.sv_report.specs.Report.{trace_text}
use Rattle.sv_report.proofs.trace.append_traces.Given as goal

abbrev pub invariant-loop-trace : goal.invariant-loop-trace
invariant-loop-trace l = string_bytes l.out ++ flat_map (trace_text l.entries) (drop l.trace-index l.traces)
    ≡ string_bytes l.fn.out ++ flat_map (trace_text l.entries) l.traces
