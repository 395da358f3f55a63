-- A poll is asked where there is room for it.
use Rattle.std.proofs.Common.{false, refl, sym, ◌∙◌, subst}
use Rattle.std.proofs.lemmas.Result.{on_ok_weaker}
use Rattle.sv_client.specs.declared.trace.Event.TheVariants as events
use Rattle.sv_replay.specs.Messages.{IsAfterTurn}
use Rattle.sv_replay.specs.Machine.{player_of}
use Rattle.sv_replay.proofs.Moving.{polls, waits_poll, down_poll, does_player, same_link, ready_moved, still_at}
use Rattle.sv_replay.proofs.playing.Playing.poll.Goals as goal

pub ask-requires-clause-may : goal.ask-requires-clause-may
ask-requires-clause-may c =
    let p = c.args.self.now in
    let after = subst IsAfterTurn (polls (player_of p) c.args.rest.now (sym c.if-may_ask.ensures)) c.requires.after in
    down_poll p.client.who p.first p.client.events after.fit.proper.0

pub returns-then-may_ask : goal.returns-then-may_ask
returns-then-may_ask c =
    let p = c.args.self.now in
    let rest = c.args.rest.now in
    on_ok_weaker c.ask.result
    (λ did. ready_moved events.Poll rest _ p c.ask.new.self c.args.channel.now c.ask.new.channel c.requires.ready refl refl
    (polls (player_of p) rest (sym c.if-may_ask.ensures) ∙ does_player p events.Poll rest c.requires.ready.linked refl)
    (same_link events.Poll rest p.closed false p c.ask.new.self c.args.channel.now c.ask.new.channel c.requires.ready.linked did))
    c.ask.ensures

pub returns-else-may_ask : goal.returns-else-may_ask
returns-else-may_ask c =
    let p = c.args.self.now in
    still_at _ p c.args.channel.now (waits_poll (player_of p) c.args.rest.now (sym c.if-may_ask.ensures)) c.requires.flags
