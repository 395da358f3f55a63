-- The loop invariant and the measure of `Player::play_session`.
use Rattle.std.proofs.Common.{◌≡◌, length, ◌-◌}
use Rattle.sv_client.specs.Traces.{joins}
use Rattle.sv_player.specs.Carried.{which_end}
use Rattle.sv_player.specs.Going.{IsReady}
use Rattle.sv_player.specs.Sessions.{IsAt, Onward}
use Rattle.sv_player.proofs.playing.Player.play_session.Given as goal

abbrev pub invariant-loop-buffers : goal.invariant-loop-buffers
invariant-loop-buffers g l = record {
  at : IsAt (joins l.fn.self.client.events) l.self l.buffers (g.E.End.told l.end);
  onward : Onward (joins l.fn.self.client.events) l.fn.self l.self;
  ready : IsReady l.self.client.who l.self.client.events l.self.left.now;
  same_end : which_end (g.E.End.told l.end) ≡ which_end (g.E.End.told l.fn.end);
  same : g.E.End.faults l.end ≡ g.E.End.faults l.fn.end;
  calm : g.E.End.calm l.fn.end → g.E.End.calm l.end;
}

abbrev pub decreases-loop-buffers : goal.decreases-loop-buffers
decreases-loop-buffers g l = 2048 - length l.self.client.events
