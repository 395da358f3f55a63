-- What the check leaves to prove of `SessionLoop::step`.
use Rattle.sv_session.proofs.Rounds.{steps_if}
use Rattle.sv_session.proofs.server.SessionLoop.step.Goals as goal

pub returns-clause-ok : goal.returns-clause-ok
returns-clause-ok g c =
    let same = c.call.ensures.same in
    steps_if c.args.pass.now c.call.new.pass c.args.request c.call.result c.legal_relays_name_accepted.ensures c.legal_replies_are_messages.ensures c.requires.may.limits c.requires.asked
    (record { lock = same.0; session = same.1; base = same.2; made = same.3; ended = same.4 }) c.call.ensures.seen c.call.ensures.mine c.call.ensures.whole c.call.ensures.lawful
