-- What the check leaves to prove of `SessionLoop::round`.
use Rattle.sv_session.specs.Rounds.{stand}
use Rattle.sv_session.proofs.Joined.{steps_none}
use Rattle.sv_session.proofs.Rounds.{halts_unanswered, round_posted, round_read}
use Rattle.sv_session.proofs.server.SessionLoop.round.Goals as goal

pub returns-in-NotYet-clause-round : goal.returns-in-NotYet-clause-round
returns-in-NotYet-clause-round g c =
    let none = c.in-NotYet.ensures in
    round_read c.read_on.result (stand (g.E.End.told c.args.end.now) c.args.pass.now c.args.buffers.now.inbox c.args.buffers.now.outbox) _ _ _ none.1 none.2 (rw (none.0) at c.read_on.ensures.reads)

pub returns-in-Memory-clause-round : goal.returns-in-Memory-clause-round
returns-in-Memory-clause-round g c = halts_unanswered _ _ (steps_none c.args.pass.now)

pub returns-in_default-clause-round : goal.returns-in_default-clause-round
returns-in_default-clause-round g c = halts_unanswered _ _ c.in_default.ensures.err

pub returns-clause-round : goal.returns-clause-round
returns-clause-round g c =
    round_posted c.post.result (stand (g.E.End.told c.args.end.now) c.args.pass.now c.args.buffers.now.inbox c.args.buffers.now.outbox) c.in-Request.request c.in-Ok.reply _ _ _ _ c.in-Request.ensures c.in-Ok.ensures.ok c.post.ensures.posts
