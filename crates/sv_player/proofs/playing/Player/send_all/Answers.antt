-- What is proved by hand of `Player::send_all`.
use Rattle.std.proofs.Common.{refl}
use Rattle.sv_client.specs.Seen.{latest_session}
use Rattle.sv_player.specs.declared.buffers.Buffers.{Buffers}
use Rattle.sv_player.proofs.Posting.{flushed}
use Rattle.sv_player.proofs.Receiving.{flush_still, flush_empties}
use Rattle.sv_player.proofs.playing.Player.send_all.Goals as goal

pub returns-clause-still : goal.returns-clause-still
returns-clause-still g c =
    let p = c.args.self.now in
    let b = c.args.buffers.now in
    let end = g.E.End.told c.args.end.now in
    let new = g.E.End.told c.flush.new.end in
    let empty : Buffers = record { inbox = b.inbox; outbox = c.flush.new.self } in
    flush_still (latest_session p.client.events) p b empty end new c.requires.at c.requires.here c.flush.result c.sent_whole.result
    (flushed c.flush.result end new b.outbox c.flush.new.self c.flush.ensures.sends c.flush.ensures.left) c.sent_whole.ensures refl

pub returns-clause-sent : goal.returns-clause-sent
returns-clause-sent g c =
    let b = c.args.buffers.now in
    let end = g.E.End.told c.args.end.now in
    let new = g.E.End.told c.flush.new.end in
    flush_empties c.flush.result c.sent_whole.result end new b.outbox c.flush.new.self
    (flushed c.flush.result end new b.outbox c.flush.new.self c.flush.ensures.sends c.flush.ensures.left) c.sent_whole.ensures
