-- What the check leaves to prove of `set_reports`.
use Rattle.std.proofs.Common.{sym, ◌∙◌, ap}
use Rattle.std.specs.Vec.Iter.{into_iter_items}
use Rattle.sv_core.specs.Relays.{with_reports}
use Rattle.sv_core.proofs.FitReports.{can_report_first, can_report_rest}
use Rattle.sv_core.proofs.reports.set_reports.Goals as goal

pub set_report-requires-clause-can : goal.set_report-requires-clause-can
set_report-requires-clause-can c = can_report_first c.loop-found.queue c.in-Some.found (into_iter_items c.loop-found.left) (into_iter_items c.next.new.self) c.in-Some.ensures.items c.loop-found.invariant.can

pub loop-found-preserved : goal.loop-found-preserved
loop-found-preserved c = record {
  left = ap (λ v. with_reports v (into_iter_items c.next.new.self)) c.set_report.ensures ∙ ap (with_reports c.loop-found.queue) (sym c.in-Some.ensures.items) ∙ c.loop-found.invariant.left;
  can = can_report_rest c.loop-found.queue c.set_report.new.queue c.in-Some.found (into_iter_items c.loop-found.left) (into_iter_items c.next.new.self) c.in-Some.ensures.items c.set_report.ensures c.loop-found.invariant.can;
}
