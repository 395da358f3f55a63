-- The client did the events before those left; the text so far and the lines of those left are the whole.
use Rattle.std.proofs.Common.{◌≡◌, [], ◌++◌, string_bytes, drop}
use Rattle.sv_report.specs.Again.{all_raised, lines_after}
use Rattle.sv_report.proofs.Standing.{Stands}
use Rattle.sv_report.proofs.trace.append_events.Given as goal

abbrev pub invariant-loop-event : goal.invariant-loop-event
invariant-loop-event l = record {
  who : l.client.who ≡ l.fn.client.who;
  stands : Stands l.entries l.trace.first l.client.who (all_raised l.trace.first l.client.events) l.place (drop l.event-index l.events);
  text : string_bytes l.out ++ lines_after l.entries (all_raised l.trace.first l.client.events) (drop l.event-index l.events)
      ≡ string_bytes l.fn.out ++ lines_after l.entries [] l.events;
}
