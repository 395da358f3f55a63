-- A request was entered, and its reply sent.
use Rattle.std.proofs.Common.{sym, ap, subst, ◌∙◌}
use Rattle.std.specs.Prelude.{is_some}
use Rattle.std.proofs.lemmas.Result.{on_ok_weaker}
use Rattle.sv_wire.specs.Laws.{IsReply}
use Rattle.sv_replay.proofs.Served.{answer_entered}
use Rattle.sv_replay.proofs.serving.answer.Goals as goal

pub step-requires-clause-first : goal.step-requires-clause-first
step-requires-clause-first g c = λ _. c.requires.running

pub send_answer-requires-clause-message : goal.send_answer-requires-clause-message
send_answer-requires-clause-message g c = subst IsReply (sym c.in_ok-reply.ensures.whole) c.requires.message

pub returns : goal.returns
returns g c =
    let view = g.S.Server.view in
    on_ok_weaker c.send_answer.result
    (λ sent. answer_entered (view c.args.server.now) (view c.step.new.self) c.args.session c.args.request c.in_ok-reply.reply c.is_some-stops.result c.args.channel.now c.send_answer.new.channel
    c.in_ok-reply.ensures (c.is_some-stops.ensures ∙ ap is_some c.stop_for.ensures.stop) sent)
    c.send_answer.ensures
