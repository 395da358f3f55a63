-- What the check leaves to prove of `SessionLoop::serve`.
use Rattle.std.proofs.Common.{refl, ap, ◌∙◌}
use Rattle.sv_link.specs.Ends.{Told}
use Rattle.sv_session.specs.Rounds.{stand, LoopGoesOn}
use Rattle.sv_session.proofs.Joined.{may_go_on, onward_self, onward_twice, halts_later}
use Rattle.sv_session.proofs.server.SessionLoop.serve.Goals as goal

pub loop-init : goal.loop-init
loop-init g c = record {
  can_next = tt;
  is_finite = tt;
  on = onward_self _;
  may = c.requires.may;
  open_still = c.requires.open;
  same = refl;
  calm = λ was. was;
}

pub loop-preserved : goal.loop-preserved
loop-preserved g c =
    let so_far = c.loop.invariant in
    let next : LoopGoesOn (stand (g.E.End.told c.loop.end) c.loop.pass c.loop.buffers.inbox c.loop.buffers.outbox) (stand (g.E.End.told c.round.new.end) c.round.new.pass c.round.new.buffers.inbox c.round.new.buffers.outbox) =
    c.in-None-round.ensures.round in
    record {
      can_next = tt;
      is_finite = tt;
      on = onward_twice c.full_replies_stay.ensures _ _ so_far.on _ next;
      may = may_go_on _ _ _ next.answered so_far.may next.steps next.no_end;
      open_still = ap (λ (t : Told). t.closed) next.told ∙ so_far.open_still;
      same = c.in-None-round.ensures.cause ∙ so_far.same;
      calm = λ was. (c.in-None-round.ensures.calm (so_far.calm was)).1;
    }

pub returns-in-Some-round-clause-halts : goal.returns-in-Some-round-clause-halts
returns-in-Some-round-clause-halts g c = halts_later c.full_replies_stay.ensures _ _ c.loop.invariant.on _ _ _ c.in-Some-round.ensures.round
