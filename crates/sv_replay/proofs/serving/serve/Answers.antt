-- Each case of a session's turn.
use Rattle.std.proofs.Common.{sym, ap, subst}
use Rattle.sv_exchange.specs.View.{ExchangeView, TakesRequest}
use Rattle.sv_replay.proofs.Served.{serves_ended, serves_end, serves_closed, serves_asked, entered_longer}
use Rattle.sv_replay.proofs.serving.serve.Goals as goal

pub returns-then-is_ended-clause-served : goal.returns-then-is_ended-clause-served
returns-then-is_ended-clause-served g c = serves_ended c.args.session (g.S.Server.view c.args.server.now) c.args.channel.now c.if-is_ended.ensures

pub end-requires-clause-running : goal.end-requires-clause-running
end-requires-clause-running g c = sym c.if-is_ended.ensures

pub answer-requires-clause-running : goal.answer-requires-clause-running
answer-requires-clause-running g c = sym c.if-is_ended.ensures

pub end-requires-in-None-clause-running : goal.end-requires-in-None-clause-running
end-requires-in-None-clause-running g c = sym c.if-is_ended.ensures

pub answer-requires-clause-message : goal.answer-requires-clause-message
answer-requires-clause-message g c =
    let b = c.next_request.new.self in
    let taken = subst (TakesRequest c.args.channel.now b) c.in-Some.is c.in_ok-request.ensures.taken in
    c.requires.message c.in-Some.request b.requests (sym c.if-is_ended.ensures) (sym c.if-is_stopped.ensures) (ap (λ (x : ExchangeView). x.requests) taken)

pub returns-then-is_stopped-clause-served : goal.returns-then-is_stopped-clause-served
returns-then-is_stopped-clause-served g c =
    serves_end c.args.session (g.S.Server.view c.args.server.now) (g.S.Server.view c.end.new.server) c.args.channel.now c.end.new.channel (sym c.if-is_ended.ensures) (sym c.if-is_stopped.ensures) c.in_ok-end.ensures

pub returns-then-is_stopped-clause-found : goal.returns-then-is_stopped-clause-found
returns-then-is_stopped-clause-found g c = entered_longer c.args.session _ (g.S.Server.view c.args.server.now) (g.S.Server.view c.end.new.server) c.end.new.channel _ c.in_ok-end.ensures

pub returns-in_ok-answer-in-Some-clause-served : goal.returns-in_ok-answer-in-Some-clause-served
returns-in_ok-answer-in-Some-clause-served g c =
    serves_asked c.args.session (g.S.Server.view c.args.server.now) (g.S.Server.view c.answer.new.server) c.args.channel.now c.next_request.new.self c.answer.new.channel c.in-Some.request
    (sym c.if-is_ended.ensures) (sym c.if-is_stopped.ensures) (subst (TakesRequest c.args.channel.now c.next_request.new.self) c.in-Some.is c.in_ok-request.ensures.taken) c.in_ok-answer-in-Some.ensures

pub returns-in_ok-answer-in-Some-clause-found : goal.returns-in_ok-answer-in-Some-clause-found
returns-in_ok-answer-in-Some-clause-found g c =
    entered_longer c.args.session c.in-Some.request (g.S.Server.view c.args.server.now) (g.S.Server.view c.answer.new.server) c.answer.new.channel _ c.in_ok-answer-in-Some.ensures

pub returns-in_ok-end-in-None-clause-served : goal.returns-in_ok-end-in-None-clause-served
returns-in_ok-end-in-None-clause-served g c =
    serves_closed c.args.session (g.S.Server.view c.args.server.now) (g.S.Server.view c.end-in-None.new.server) c.args.channel.now c.next_request.new.self c.end-in-None.new.channel
    (sym c.if-is_ended.ensures) (sym c.if-is_stopped.ensures) (subst (TakesRequest c.args.channel.now c.next_request.new.self) c.in-None.is c.in_ok-request.ensures.taken) (sym c.if-is_closed.ensures) c.in_ok-end-in-None.ensures

pub returns-in_ok-end-in-None-clause-found : goal.returns-in_ok-end-in-None-clause-found
returns-in_ok-end-in-None-clause-found g c = entered_longer c.args.session _ (g.S.Server.view c.args.server.now) (g.S.Server.view c.end-in-None.new.server) c.end-in-None.new.channel _ c.in_ok-end-in-None.ensures
