-- The snapshots of the events so far.
use Rattle.std.proofs.Common.{◌≡◌, [], ◌++◌, drop}
use Rattle.sv_report.specs.Again.{MayComeAfter, all_raised}
use Rattle.sv_looks.specs.Again.{snapshots_after}
use Rattle.sv_looks.proofs.taking.append_told.Given as goal

-- the client did the events before those left; the snapshots so far and those of the events left are all
abbrev pub invariant-loop-event : goal.invariant-loop-event
invariant-loop-event l = record {
  who : l.client.who ≡ l.fn.client.who;
  after : MayComeAfter l.client.who l.trace.first (all_raised l.trace.first l.client.events) (drop l.event-index l.events);
  told : l.snapshots.items ++ snapshots_after l.fn.client.who (all_raised l.trace.first l.client.events) (drop l.event-index l.events)
      ≡ l.fn.snapshots.items ++ snapshots_after l.fn.client.who [] l.events;
}
