-- Each session so far had its End, so all had.
use Rattle.std.proofs.Common.{below_more, sym}
use Rattle.sv_replay.proofs.server.are_ended.Goals as goal

pub loop-session-preserved : goal.loop-session-preserved
loop-session-preserved g c = below_more _ _ c.loop-session.invariant (sym c.if-not-is_ended.ensures)
