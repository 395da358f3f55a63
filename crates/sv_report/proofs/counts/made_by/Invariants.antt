-- The actions that were made so far.
use Rattle.std.proofs.Common.{◌≡◌, ◌≤◌, reverse, take}
use Rattle.sv_client.specs.Traces.{makes}
use Rattle.sv_report.proofs.counts.made_by.Given as goal

abbrev pub invariant-loop-event : goal.invariant-loop-event
invariant-loop-event l = (l.count ≤ l.event-index) × (l.count ≡ makes (reverse (take l.event-index l.trace.events)))
