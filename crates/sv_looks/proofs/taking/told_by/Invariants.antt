-- The snapshots of the traces so far.
use Rattle.std.proofs.Common.{◌≡◌, ◌++◌, drop}
use Rattle.sv_looks.specs.Snapshots.{snapshots_of}
use Rattle.sv_looks.proofs.taking.told_by.Given as goal

-- the snapshots so far and those of the traces left are all
abbrev pub invariant-loop-trace : goal.invariant-loop-trace
invariant-loop-trace l = l.snapshots.items ++ snapshots_of l.played.shape (drop l.trace-index l.played.traces) ≡ snapshots_of l.played.shape l.played.traces
