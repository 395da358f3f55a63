-- What is proved by hand of `Player::take_reply`.
use Rattle.std.proofs.Common.{◌≢◌, ◌+◌, List, length, refl, sym, subst, rules}
use Rattle.std.specs.Prelude.{All}
use Rattle.std.proofs.lemmas.Result.{err_from_is_err_and}
use Rattle.sv_exchange.specs.Outgoing.{KeepsBack}
use Rattle.sv_wire.specs.declared.message.Request.{Request}
use Rattle.sv_wire.specs.Grammar.{IsWireRequest}
use Rattle.sv_player.specs.Carried.{request_frames}
use Rattle.sv_client.specs.Seen.{latest_session}
use Rattle.sv_client.specs.declared.fault.TakeFault.TheVariants as faults
use Rattle.sv_player.specs.declared.playing.Player.{Player}
use Rattle.sv_player.specs.Going.{IsHere}
use Rattle.sv_player.specs.Sessions.{IsAt, Stopped}
use Rattle.sv_player.specs.declared.buffers.Buffers.{Buffers}
use Rattle.sv_player.proofs.Going.{few_counted}
use Rattle.sv_player.proofs.Wire.{reply_asks}
use Rattle.sv_player.proofs.Taking.{got_early}
use Rattle.sv_player.proofs.Receiving.{frame_stops, frame_came}
use Rattle.sv_player.proofs.Answering.{answer_goes, answer_stops}
use Rattle.sv_player.proofs.playing.Player.take_reply.Goals as goal

pub take-requires-clause-count : goal.take-requires-clause-count
take-requires-clause-count g c = few_counted c.args.self.now c.requires.at.going

pub skip-requires : goal.skip-requires
skip-requires g c = frame_came c.args.buffers.now.inbox c.requires.first.payload c.requires.first.first

pub skip-requires-in-Err-Memory : goal.skip-requires-in-Err-Memory
skip-requires-in-Err-Memory g c = frame_came c.args.buffers.now.inbox c.requires.first.payload c.requires.first.first

pub answer-requires-clause-messages : goal.answer-requires-clause-messages
answer-requires-clause-messages g c =
    let p = c.args.self.now in
    subst (All IsWireRequest) (sym c.in-Ok.ensures.done)
    (reply_asks p.client.who p.client.events c.args.reply c.requires.at.going.may.shape c.requires.at.going.proper c.requires.first.wire c.in-Ok.ensures.fine)

pub returns-in_err-answer-in-Ok-clause-received : goal.returns-in_err-answer-in-Ok-clause-received
returns-in_err-answer-in-Ok-clause-received g c =
    let p = c.args.self.now in
    let b = c.args.buffers.now in
    let end = g.E.End.told c.args.end.now in
    let s = latest_session p.client.events in
    let mid : Buffers = record { inbox = c.skip.new.self; outbox = b.outbox } in
    let failed = err_from_is_err_and c.from_residual.result c.from_residual.ensures.1 in
    rw (failed.1, failed.2)
    (answer_stops s c.args.reply p c.take.new.self b end c.requires.at c.requires.here c.requires.waits c.requires.first c.requires.flushed c.in-Ok.ensures.fine
    c.in-Ok.ensures.ok c.in-Ok.done c.in-Ok.ensures.done mid c.answer.new.buffers (g.E.End.told c.answer.new.end) c.skip.ensures refl c.in_err-answer-in-Ok.field-0.0
    c.in_err-answer-in-Ok.ensures.posted c.in_err-answer-in-Ok.ensures.some)

pub returns-in_ok-answer-in-Ok-clause-received : goal.returns-in_ok-answer-in-Ok-clause-received
returns-in_ok-answer-in-Ok-clause-received g c =
    let p = c.args.self.now in
    let b = c.args.buffers.now in
    let end = g.E.End.told c.args.end.now in
    let s = latest_session p.client.events in
    let mid : Buffers = record { inbox = c.skip.new.self; outbox = b.outbox } in
    answer_goes s c.args.reply p c.take.new.self b end c.requires.at c.requires.here c.requires.waits c.requires.first c.requires.flushed c.in-Ok.ensures.fine
    c.in-Ok.ensures.ok c.in-Ok.done c.in-Ok.ensures.done mid c.answer.new.buffers (g.E.End.told c.answer.new.end) c.skip.ensures refl c.is_bye-bye.result c.is_bye-bye.ensures c.answer.ensures.inbox
    c.in_ok-answer-in-Ok.ensures.posted c.in_ok-answer-in-Ok.ensures.are_messages c.answer.ensures.quiet

pub returns-in_ok-answer-in-Ok-clause-kept : goal.returns-in_ok-answer-in-Ok-clause-kept
returns-in_ok-answer-in-Ok-clause-kept g c =
    subst (λ (rs : List Request). KeepsBack c.args.buffers.now.outbox (length (request_frames rs)) (g.E.End.told c.args.end.now) (g.E.End.told c.answer.new.end)) c.in-Ok.ensures.done
    c.answer.ensures.kept

pub returns-in-Err-Memory-clause-received : goal.returns-in-Err-Memory-clause-received
returns-in-Err-Memory-clause-received g c =
    let p = c.args.self.now in
    let b = c.args.buffers.now in
    let end = g.E.End.told c.args.end.now in
    let s = latest_session p.client.events in
    got_early s c.args.reply p c.take.new.self b end c.requires.at c.requires.here c.requires.waits c.requires.first c.skip-in-Err-Memory.new.self c.in-Err-Memory.ensures.known
    c.in-Err-Memory.ensures.part c.skip-in-Err-Memory.ensures

-- A refused reply leaves the player as it was.
pub send_all-requires-clause-at : goal.send_all-requires-clause-at
send_all-requires-clause-at g c =
    let some : (c.in-Err.fault ≢ faults.Memory) = search rules in
    subst (λ (q : Player). IsAt (latest_session q.client.events) q c.args.buffers.now (g.E.End.told c.args.end.now)) (sym (c.in-Err.ensures.refused some)) c.requires.at

pub send_all-requires-clause-here : goal.send_all-requires-clause-here
send_all-requires-clause-here g c =
    let some : (c.in-Err.fault ≢ faults.Memory) = search rules in
    subst (λ (q : Player). IsHere q.client.who q.client.events q.left.now) (sym (c.in-Err.ensures.refused some)) c.requires.here

pub returns-in_err-send_all-in-Err-clause-received : goal.returns-in_err-send_all-in-Err-clause-received
returns-in_err-send_all-in-Err-clause-received g c =
    let some : (c.in-Err.fault ≢ faults.Memory) = search rules in
    let q = c.take.new.self in
    let end = g.E.End.told c.send_all.new.end in
    let failed = err_from_is_err_and c.from_residual-in_err-send_all-in-Err.result c.from_residual-in_err-send_all-in-Err.ensures.1 in
    rw (failed.1, failed.2)
    (subst (λ (p : Player). Stopped (latest_session p.client.events) p q end c.in_err-send_all-in-Err.field-0.0) (c.in-Err.ensures.refused some) c.in_err-send_all-in-Err.ensures.still)

pub returns-in_ok-send_all-in-Err-clause-received : goal.returns-in_ok-send_all-in-Err-clause-received
returns-in_ok-send_all-in-Err-clause-received g c =
    let some : (c.in-Err.fault ≢ faults.Memory) = search rules in
    let same = c.in-Err.ensures.refused some in
    let q = c.take.new.self in
    let end = g.E.End.told c.send_all.new.end in
    subst (λ (p : Player). Stopped (latest_session p.client.events) p q end c.refusal.result) same
    (frame_stops (latest_session q.client.events) q c.send_all.new.buffers end c.refusal.result c.in_ok-send_all-in-Err.ensures.still
    (subst (λ (p : Player). IsHere p.client.who p.client.events p.left.now) (sym same) c.requires.here) c.in_ok-send_all-in-Err.ensures.sent c.refusal.ensures)
