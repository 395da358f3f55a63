-- What the events so far say of the session.
use Rattle.std.proofs.Common.{◌≡◌, reverse, take}
use Rattle.sv_client.specs.Traces.{current_session}
use Rattle.sv_player.specs.Stops.{is_cut}
use Rattle.sv_threads.proofs.gathering.was_cut.Given as goal

abbrev pub invariant-loop-event : goal.invariant-loop-event
invariant-loop-event l = record {
  current : l.current ≡ current_session (reverse (take l.event-index l.trace.events));
  cut : l.cut ≡ is_cut (reverse (take l.event-index l.trace.events)) l.session;
}
