-- The next reply is one that the client takes.
use Rattle.std.proofs.Common.{List, ◌++◌, sym, ap, subst, ◌∙◌}
use Rattle.std.specs.Prelude.{All}
use Rattle.sv_wire.specs.declared.message.Request.{Request}
use Rattle.sv_wire.specs.Laws.{IsRequest}
use Rattle.sv_exchange.specs.View.{ExchangeView, TakesReply}
use Rattle.sv_replay.specs.declared.playing.Playing.{Playing}
use Rattle.sv_replay.specs.Players.{session_of}
use Rattle.sv_replay.specs.Machine.{player_of}
use Rattle.sv_replay.proofs.Moving.{first_of, none_waits, took_moved, asks_got_now, takes_fine}
use Rattle.sv_replay.proofs.playing.Playing.take_next.Goals as goal

pub returns-in_default-clause-taken : goal.returns-in_default-clause-taken
returns-in_default-clause-taken c =
    let p = c.args.self.now in
    none_waits p c.args.channel.now c.next_reply.new.self (session_of (player_of p)) (subst (TakesReply c.args.channel.now c.next_reply.new.self) c.in_default.is c.in_ok-reply.ensures.taken) c.requires.flags

pub taken-requires-clause-messages : goal.taken-requires-clause-messages
taken-requires-clause-messages c =
    let p = c.args.self.now in
    let first = first_of c.in-Some.reply c.args.channel.now.replies c.next_reply.new.self.replies (ap (λ (v : ExchangeView). v.replies) (subst (TakesReply c.args.channel.now c.next_reply.new.self) c.in-Some.is c.in_ok-reply.ensures.taken)) in
    subst (All IsRequest) (sym c.in-Ok.ensures.done)
    (asks_got_now p c.args.channel.now c.in-Some.reply c.requires.fit c.requires.linked c.requires.joined first c.in-Ok.ensures.fine c.requires.after)

pub returns-in_ok-taken-in-Ok-clause-taken : goal.returns-in_ok-taken-in-Ok-clause-taken
returns-in_ok-taken-in-Ok-clause-taken c =
    let p = c.args.self.now in
    let q = c.taken.new.self in
    let b = c.next_reply.new.self in
    let is = c.taken.ensures.playing in
    took_moved p q c.args.channel.now c.next_reply.new.self c.taken.new.channel c.in-Some.reply c.requires.fit c.requires.linked c.requires.joined (subst (TakesReply c.args.channel.now c.next_reply.new.self) c.in-Some.is c.in_ok-reply.ensures.taken) c.in-Ok.ensures.fine
    (ap (λ (x : Playing). x.client.who) is ∙ c.in-Ok.ensures.who) (ap (λ (x : Playing). x.client.events) is ∙ c.in-Ok.ensures.got) (ap (λ (x : Playing). x.first) is)
    (ap (λ (x : Playing). x.left.now) is) (ap (λ (x : Playing). x.closed) is)
    c.requires.flags (ap (λ (x : Playing). x.between) is) (ap (λ (x : Playing). x.welcomed) is)
    (c.in_ok-taken-in-Ok.ensures.channel ∙ ap (λ (rs : List Request). record b { requests = b.requests ++ rs }) c.in-Ok.ensures.done)

pub unreachable-requires : goal.unreachable-requires
unreachable-requires c =
    let p = c.args.self.now in
    let first = first_of c.in-Some.reply c.args.channel.now.replies c.next_reply.new.self.replies (ap (λ (v : ExchangeView). v.replies) (subst (TakesReply c.args.channel.now c.next_reply.new.self) c.in-Some.is c.in_ok-reply.ensures.taken)) in
    takes_fine p.client.who p.client.events c.in-Some.reply c.in-Err.fault c.in_default-fault.not-Memory c.in-Err.ensures.fault (c.requires.fine c.in-Some.reply first)
