-- The loop invariant of `Watch::tell_each`.
use Rattle.std.proofs.Common.{◌≡◌, ◌++◌, take, map}
use Rattle.sv_watch.specs.Told.{change_line}
use Rattle.sv_watch.proofs.watch.Watch.tell_each.Given as goal

abbrev pub invariant-loop-change : goal.invariant-loop-change
invariant-loop-change g l = l.lines.items ≡ l.initial.lines.items ++ map change_line (take l.change-index l.changes)
