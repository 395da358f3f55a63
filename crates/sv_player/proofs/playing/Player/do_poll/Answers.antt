-- What is proved by hand of `Player::do_poll`.
use Rattle.std.specs.Prelude.{All}
use Rattle.std.proofs.lemmas.List.Elements.{All-nil, All-cons}
use Rattle.std.proofs.lemmas.Result.{err_from_is_err_and}
use Rattle.sv_wire.specs.Laws.{IsRequest}
use Rattle.std.proofs.Common.{List, [], subst, length}
use Rattle.sv_wire.specs.declared.message.Request.{Request}
use Rattle.sv_client.specs.declared.trace.Event.TheVariants as events
use Rattle.sv_client.specs.Seen.{latest_session}
use Rattle.sv_exchange.specs.Outgoing.{KeepsBack}
use Rattle.sv_player.specs.Carried.{request_frames}
use Rattle.sv_player.specs.Waiting.{PutBehind}
use Rattle.sv_player.proofs.Going.{few_counted}
use Rattle.sv_player.proofs.Turns.{before_move, poll_due, did_nothing, stops_early, turn_by}
use Rattle.sv_player.proofs.playing.Player.do_poll.Goals as goal

pub poll-requires-clause-count : goal.poll-requires-clause-count
poll-requires-clause-count g c = few_counted c.args.self.now c.requires.at.going

pub returns-clause-turn : goal.returns-clause-turn
returns-clause-turn g c =
    let p = c.args.self.now in
    let b = c.args.buffers.now in
    let end = g.E.End.told c.args.end.now in
    let s = latest_session p.client.events in
    let new = g.E.End.told c.post.new.end in
    let sent = subst (λ (rs : List Request). PutBehind c.post.result end b.outbox (request_frames rs) new c.post.new.self.outbox) c.in_ok-request.ensures.request c.post.ensures.posts in
    turn_by s events.Poll c.args.rest.now p c.poll.new.self end b.inbox b.outbox (before_move s p b end c.requires.at c.requires.ready)
    (poll_due s p b end c.requires.at c.requires.ready c.args.rest.now c.requires.next c.requires.room)
    c.post.result c.sent_whole.result c.post.new.self new c.sent_whole.ensures c.post.ensures.inbox c.in_ok-request.ensures.ok sent
    (λ _. subst (All IsRequest) c.in_ok-request.ensures.request (All-cons IsRequest c.in_ok-request.request [] c.post.ensures.is_message (All-nil IsRequest)))

pub returns-in_err-request-clause-turn : goal.returns-in_err-request-clause-turn
returns-in_err-request-clause-turn g c =
    let p = c.args.self.now in
    let b = c.args.buffers.now in
    let end = g.E.End.told c.args.end.now in
    let s = latest_session p.client.events in
    let failed = err_from_is_err_and c.from_residual.result c.from_residual.ensures.1 in
    rw (failed.1, failed.2)
    (stops_early s events.Poll c.args.rest.now p c.poll.new.self end b.inbox b.outbox (before_move s p b end c.requires.at c.requires.ready)
    (poll_due s p b end c.requires.at c.requires.ready c.args.rest.now c.requires.next c.requires.room) (did_nothing events.Poll p c.poll.new.self c.in_err-request.ensures.err) c.requires.at.open_is)

pub returns-clause-kept : goal.returns-clause-kept
returns-clause-kept g c =
    subst (λ (rs : List Request). KeepsBack c.args.buffers.now.outbox (length (request_frames rs)) (g.E.End.told c.args.end.now) (g.E.End.told c.post.new.end)) c.in_ok-request.ensures.request
    c.post.ensures.kept
