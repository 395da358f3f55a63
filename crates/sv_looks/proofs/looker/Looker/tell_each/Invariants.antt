-- The lines of the snapshots so far.
use Rattle.std.proofs.Common.{◌≡◌, ◌++◌, take, map}
use Rattle.sv_looks.specs.Lines.{look_line}
use Rattle.sv_looks.proofs.looker.Looker.tell_each.Given as goal

abbrev pub invariant-loop-snapshot : goal.invariant-loop-snapshot
invariant-loop-snapshot g l = l.lines.items ≡ l.initial.lines.items ++ map look_line (take l.snapshot-index l.snapshots)
