-- The loop invariant and the measure of `Player::await_frame`.
use Rattle.std.proofs.Common.{◌≡◌, length, ◌-◌}
use Rattle.sv_client.specs.Seen.{latest_session}
use Rattle.sv_player.specs.Carried.{which_end}
use Rattle.sv_player.specs.Sessions.{IsAt}
use Rattle.sv_player.proofs.playing.Player.await_frame.Given as goal

abbrev pub invariant-loop-buffers : goal.invariant-loop-buffers
invariant-loop-buffers g l = record {
  at : IsAt (latest_session l.self.client.events) l.self l.buffers (g.E.End.told l.end);
  same_end : which_end (g.E.End.told l.end) ≡ which_end (g.E.End.told l.fn.end);
  same : g.E.End.faults l.end ≡ g.E.End.faults l.fn.end;
  calm : g.E.End.calm l.fn.end → g.E.End.calm l.end;
}

abbrev pub decreases-loop-buffers : goal.decreases-loop-buffers
decreases-loop-buffers g l = 65540 - length l.buffers.inbox
