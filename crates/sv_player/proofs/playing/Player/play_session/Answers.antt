-- What is proved by hand of `Player::play_session`.
use Rattle.std.proofs.Common.{[], Bool, refl, subst}
use Rattle.std.proofs.lemmas.Result.{err_from_is_err_and}
use Rattle.sv_client.specs.declared.trace.Event.TheVariants as events
use Rattle.sv_client.specs.Traces.{joins}
use Rattle.sv_client.specs.Seen.{latest_session}
use Rattle.sv_player.specs.declared.outcome.SessionEnd.TheVariants as endings
use Rattle.sv_player.specs.Sessions.{Got}
use Rattle.sv_player.proofs.Turns.{before_join, join_due, did_nothing, stops_early, uncut_next}
use Rattle.sv_player.proofs.Moving.{bye_ends, joined_awaits, joined_waits, stopped_after, ended_after, moved_fewer}
use Rattle.sv_player.proofs.playing.Player.play_session.Goals as goal

pub returns-in_err-buffers-clause-played : goal.returns-in_err-buffers-clause-played
returns-in_err-buffers-clause-played g c =
    let p = c.args.self.now in
    let end = g.E.End.told c.args.end.now in
    let s = joins p.client.events in
    let failed = err_from_is_err_and c.from_residual.result c.from_residual.ensures.1 in
    rw (failed.1, failed.2)
    (stops_early s (events.Join s) p.left.now p p end [] [] (before_join p end [] [] c.requires.going c.requires.fresh (refl, refl)) (join_due p c.requires.going c.requires.needed c.requires.few)
    (did_nothing (events.Join s) p p refl) (uncut_next p.client.who p.client.events c.requires.going.proper))

pub receive-requires-clause-awaited : goal.receive-requires-clause-awaited
receive-requires-clause-awaited g c =
    joined_awaits c.args.self.now c.begin.new.self c.begin.new.buffers (g.E.End.told c.begin.new.end) c.requires.going c.in_ok-begin.ensures.turn

pub receive-requires-clause-waits : goal.receive-requires-clause-waits
receive-requires-clause-waits g c =
    joined_waits (joins c.args.self.now.client.events) c.args.self.now c.begin.new.self c.begin.new.buffers (g.E.End.told c.begin.new.end) c.begin.new.self.left.now c.in_ok-begin.ensures.turn

pub returns-in_err-receive-clause-played : goal.returns-in_err-receive-clause-played
returns-in_err-receive-clause-played g c =
    let failed = err_from_is_err_and c.from_residual-in_err-receive.result c.from_residual-in_err-receive.ensures.1 in
    rw (failed.1, failed.2)
    (stopped_after (joins c.args.self.now.client.events) c.args.self.now c.begin.new.self c.receive.new.self c.begin.new.buffers (g.E.End.told c.begin.new.end) (g.E.End.told c.receive.new.end)
    c.in_err-receive.field-0.0 c.in_ok-begin.ensures.turn.at c.in_ok-begin.ensures.turn.onward c.in_err-receive.ensures.received)

pub returns-then-branch-clause-played : goal.returns-then-branch-clause-played
returns-then-branch-clause-played g c =
    let p = c.args.self.now in
    let q = c.begin.new.self in
    let r = c.receive.new.self in
    let new = g.E.End.told c.receive.new.end in
    let n = latest_session q.client.events in
    let bye = subst (λ (b : Bool). Got n b q r c.receive.new.buffers new) c.if-branch.true c.in_ok-receive.ensures.received in
    ended_after (joins p.client.events) p q r c.begin.new.buffers (g.E.End.told c.begin.new.end) new endings.Left c.in_ok-begin.ensures.turn.at c.in_ok-begin.ensures.turn.onward
    (bye_ends n q r c.receive.new.buffers new bye)

pub returns-in_err-ending-clause-played : goal.returns-in_err-ending-clause-played
returns-in_err-ending-clause-played g c =
    let failed = err_from_is_err_and c.from_residual-in_err-ending.result c.from_residual-in_err-ending.ensures.1 in
    rw (failed.1, failed.2)
    (stopped_after (joins c.args.self.now.client.events) c.args.self.now c.loop-buffers.self c.go_on.new.self c.loop-buffers.buffers (g.E.End.told c.loop-buffers.end) (g.E.End.told c.go_on.new.end)
    c.in_err-ending.field-0.0 c.loop-buffers.invariant.at c.loop-buffers.invariant.onward c.in_err-ending.ensures.moved)

pub loop-buffers-smaller : goal.loop-buffers-smaller
loop-buffers-smaller g c =
    moved_fewer (latest_session c.loop-buffers.self.client.events) c.in_ok-ending.field-0 c.loop-buffers.self c.go_on.new.self c.go_on.new.buffers (g.E.End.told c.go_on.new.end) c.in_default.is
    c.in_ok-ending.ensures.moved
