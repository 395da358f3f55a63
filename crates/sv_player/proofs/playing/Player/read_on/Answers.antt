-- What is proved by hand of `Player::read_on`.
use Rattle.std.proofs.Common.{List, ℕ, refl, subst, sym}
use Rattle.sv_frame.specs.Answers.{Came}
use Rattle.sv_client.specs.Seen.{latest_session}
use Rattle.sv_player.specs.declared.buffers.Buffers.{Buffers}
use Rattle.sv_player.specs.declared.outcome.PlayerCause.TheVariants as causes
use Rattle.sv_player.proofs.Receiving.{grew_at, none_read, wait_stops, long_stops, shut_stops}
use Rattle.sv_player.proofs.playing.Player.read_on.Goals as goal

pub unreachable-requires : goal.unreachable-requires
unreachable-requires g c = none_read c.next.result c.args.buffers.now.inbox c.next.ensures.reads c.requires.none c.in_default.not-NotYet c.in_default.not-TooLong

pub returns-in-TooLong-clause-still : goal.returns-in-TooLong-clause-still
returns-in-TooLong-clause-still g c =
    let p = c.args.self.now in
    let end = g.E.End.told c.args.end.now in
    long_stops (latest_session p.client.events) p c.args.buffers.now end c.requires.at c.requires.here c.requires.flushed c.session_number.result c.in-TooLong.size c.new.result c.session_number.ensures
    c.new.ensures.items c.in-TooLong.ensures.reads

pub returns-in-Got-clause-still : goal.returns-in-Got-clause-still
returns-in-Got-clause-still g c =
    let p = c.args.self.now in
    let b = c.args.buffers.now in
    let end = g.E.End.told c.args.end.now in
    let new = g.E.End.told c.read_from.new.end in
    let more : Buffers = record { inbox = c.read_from.new.self; outbox = b.outbox } in
    grew_at (latest_session p.client.events) p b more end new c.in-Got.field-0 c.requires.at
    (subst (λ (bytes : List ℕ). Came end bytes c.in-Got.field-0 new c.read_from.new.self) c.in-NotYet.ensures.takes c.in-Got.ensures.came) refl

pub returns-in-Ended-clause-still : goal.returns-in-Ended-clause-still
returns-in-Ended-clause-still g c =
    let p = c.args.self.now in
    shut_stops (latest_session p.client.events) p c.args.buffers.now (g.E.End.told c.args.end.now) c.requires.at c.requires.here c.requires.flushed (g.E.End.told c.read_from.new.end)
    c.requires.awaited c.in-NotYet.ensures.reads c.in-Ended.ensures.came.0

pub returns-in-Failed-clause-still : goal.returns-in-Failed-clause-still
returns-in-Failed-clause-still g c =
    let p = c.args.self.now in
    wait_stops (latest_session p.client.events) p c.args.buffers.now (g.E.End.told c.args.end.now) c.requires.at c.requires.here c.requires.flushed (g.E.End.told c.read_from.new.end)
    causes.LinkFault c.in-Failed.ensures.came.0 tt

pub returns-in-Memory-clause-still : goal.returns-in-Memory-clause-still
returns-in-Memory-clause-still g c =
    let p = c.args.self.now in
    wait_stops (latest_session p.client.events) p c.args.buffers.now (g.E.End.told c.args.end.now) c.requires.at c.requires.here c.requires.flushed (g.E.End.told c.read_from.new.end)
    causes.Memory c.in-Memory.ensures.came.0 tt
