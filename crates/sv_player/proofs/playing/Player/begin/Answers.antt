-- What is proved by hand of `Player::begin`.
use Rattle.std.proofs.Common.{List, length, sym, subst, ◌∙◌}
use Rattle.std.specs.Prelude.{All}
use Rattle.std.proofs.lemmas.Result.{err_from_is_err_and}
use Rattle.sv_wire.specs.declared.message.Request.{Request}
use Rattle.sv_wire.specs.Grammar.{IsWireRequest}
use Rattle.sv_wire.specs.Laws.{IsRequest}
use Rattle.sv_client.specs.declared.trace.Event.TheVariants as events
use Rattle.sv_client.specs.Traces.{joins}
use Rattle.sv_exchange.specs.Outgoing.{KeepsBack}
use Rattle.sv_player.specs.Carried.{request_frames}
use Rattle.sv_player.specs.Waiting.{PutBehind}
use Rattle.sv_player.proofs.Going.{few_counted}
use Rattle.sv_player.proofs.Wire.{join_asks}
use Rattle.sv_player.proofs.Turns.{before_join, join_due, did_nothing, stops_early, turn_by, uncut_next}
use Rattle.sv_player.proofs.playing.Player.begin.Goals as goal

pub join-requires-clause-count : goal.join-requires-clause-count
join-requires-clause-count g c = few_counted c.args.self.now c.requires.going

pub post_all-requires-clause-messages : goal.post_all-requires-clause-messages
post_all-requires-clause-messages g c =
    let p = c.args.self.now in
    subst (All IsWireRequest) (sym (c.deref.ensures.value ∙ c.in_ok-requests.ensures.requests)) (join_asks p.client.who p.client.events c.requires.going.may.identity c.requires.going.proper)

pub returns-in_err-requests-clause-turn : goal.returns-in_err-requests-clause-turn
returns-in_err-requests-clause-turn g c =
    let p = c.args.self.now in
    let b = c.args.buffers.now in
    let end = g.E.End.told c.args.end.now in
    let s = joins p.client.events in
    let failed = err_from_is_err_and c.from_residual.result c.from_residual.ensures.1 in
    rw (failed.1, failed.2)
    (stops_early s (events.Join s) p.left.now p c.join.new.self end b.inbox b.outbox (before_join p end b.inbox b.outbox c.requires.going c.requires.fresh c.requires.empty)
    (join_due p c.requires.going c.requires.needed c.requires.few) (did_nothing (events.Join s) p c.join.new.self c.in_err-requests.ensures.err) (uncut_next p.client.who p.client.events c.requires.going.proper))

pub returns-clause-turn : goal.returns-clause-turn
returns-clause-turn g c =
    let p = c.args.self.now in
    let b = c.args.buffers.now in
    let end = g.E.End.told c.args.end.now in
    let s = joins p.client.events in
    let new = g.E.End.told c.post_all.new.end in
    let same = c.deref.ensures.value ∙ c.in_ok-requests.ensures.requests in
    let sent = subst (λ (rs : List Request). PutBehind c.post_all.result end b.outbox (request_frames rs) new c.post_all.new.self.outbox) same c.post_all.ensures.posts in
    turn_by s (events.Join s) p.left.now p c.join.new.self end b.inbox b.outbox (before_join p end b.inbox b.outbox c.requires.going c.requires.fresh c.requires.empty)
    (join_due p c.requires.going c.requires.needed c.requires.few)
    c.post_all.result c.sent_whole.result c.post_all.new.self new c.sent_whole.ensures c.post_all.ensures.inbox c.in_ok-requests.ensures.ok sent
    (λ whole. subst (All IsRequest) same (c.post_all.ensures.are_messages whole))

pub returns-clause-kept : goal.returns-clause-kept
returns-clause-kept g c =
    subst (λ (rs : List Request). KeepsBack c.args.buffers.now.outbox (length (request_frames rs)) (g.E.End.told c.args.end.now) (g.E.End.told c.post_all.new.end))
    (c.deref.ensures.value ∙ c.in_ok-requests.ensures.requests) c.post_all.ensures.kept
