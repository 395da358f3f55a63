-- Those so far and those of the traces left are all; and each trace has at most 65,536.
use Rattle.std.proofs.Common.{◌≡◌, ◌+◌, ◌*◌, ◌≤◌, drop}
use Rattle.sv_report.specs.Summary.{made_count}
use Rattle.sv_report.proofs.counts.made_in.Given as goal

abbrev pub invariant-loop-trace : goal.invariant-loop-trace
invariant-loop-trace l = (l.count ≤ 65536 * l.trace-index) × (l.count + made_count (drop l.trace-index l.traces) ≡ made_count l.traces)
