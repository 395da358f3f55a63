-- The loop invariant of `SessionLoop::serve`.
use Rattle.std.proofs.Common.{◌≡◌, false}
use Rattle.sv_session.specs.Serving.{MayServe}
use Rattle.sv_session.specs.Rounds.{stand, LoopGoesOn}
use Rattle.sv_session.proofs.server.SessionLoop.serve.Given as goal

abbrev pub invariant-loop : goal.invariant-loop
invariant-loop g l = record {
  can_next : (goal.iterator-loop g).can_next l.iterator';
  is_finite : (goal.iterator-loop g).is_finite l.iterator';
  on : LoopGoesOn (stand (g.E.End.told l.fn.end) l.fn.pass l.fn.buffers.inbox l.fn.buffers.outbox) (stand (g.E.End.told l.end) l.pass l.buffers.inbox l.buffers.outbox);
  may : MayServe l.self.lock.now l.pass;
  open_still : (g.E.End.told l.end).closed ≡ false;
  same : g.E.End.faults l.end ≡ g.E.End.faults l.fn.end;
  calm : g.E.End.calm l.fn.end → g.E.End.calm l.end;
}
