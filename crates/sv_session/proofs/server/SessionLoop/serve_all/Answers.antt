-- What the check leaves to prove of `SessionLoop::serve_all`.
use Rattle.sv_session.proofs.Joined.{steps_none}
use Rattle.sv_session.proofs.Rounds.{halts_unanswered}
use Rattle.sv_session.proofs.server.SessionLoop.serve_all.Goals as goal

pub returns-in-Err-clause-halts : goal.returns-in-Err-clause-halts
returns-in-Err-clause-halts g c = halts_unanswered _ _ (steps_none c.args.pass.now)
