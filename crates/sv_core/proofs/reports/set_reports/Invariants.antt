-- The loop invariant and the ghost arguments of `set_reports`, and what gets smaller.
use Rattle.std.proofs.Common.{◌≡◌, All, length}
use Rattle.std.specs.Vec.Iter.{into_iter_items}
use Rattle.sv_core.specs.Relays.{with_reports, CanReport}
use Rattle.sv_core.proofs.reports.set_reports.Given as goal

abbrev pub invariant-loop-found : goal.invariant-loop-found
invariant-loop-found l = record {
  left : with_reports l.queue (into_iter_items l.left) ≡ with_reports l.initial.queue l.fn.results.items;
  can : All (CanReport l.queue) (into_iter_items l.left);
}

abbrev pub decreases-loop-found : goal.decreases-loop-found
decreases-loop-found l = length (into_iter_items l.left)

abbrev pub ghosts-set_report : goal.ghosts-set_report
ghosts-set_report a = record { name = a.blank.name; parts = a.blank.parts }
