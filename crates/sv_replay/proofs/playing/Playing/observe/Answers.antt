-- What objects are is asked where there is room for it.
use Rattle.std.proofs.Common.{false, refl, sym, ◌∙◌, subst}
use Rattle.std.proofs.lemmas.Result.{on_ok_weaker}
use Rattle.sv_client.specs.declared.trace.Event.TheVariants as events
use Rattle.sv_replay.specs.Messages.{IsAfterTurn}
use Rattle.sv_replay.specs.Machine.{player_of}
use Rattle.sv_replay.proofs.Moving.{observes, waits_observe, down_observe, does_player, same_link, asks_ready, ready_moved, still_at}
use Rattle.sv_replay.proofs.playing.Playing.observe.Goals as goal

pub look-requires-clause-may : goal.look-requires-clause-may
look-requires-clause-may c =
    let p = c.args.self.now in
    let after = subst IsAfterTurn (observes (player_of p) c.args.objects.now c.args.rest.now (sym c.if-may_ask.ensures)) c.requires.after in
    down_observe p.client.who p.first p.client.events c.args.objects.now after.fit.proper.0

pub look-requires-clause-messages : goal.look-requires-clause-messages
look-requires-clause-messages c =
    let p = c.args.self.now in
    let e = events.Observe c.args.objects.now 0 in
    let rest = c.args.rest.now in
    asks_ready p e rest _ c.requires.ready refl refl
    (observes (player_of p) c.args.objects.now rest (sym c.if-may_ask.ensures) ∙ does_player p e rest c.requires.ready.linked refl) c.requires.after.asks

pub returns-then-may_ask : goal.returns-then-may_ask
returns-then-may_ask c =
    let p = c.args.self.now in
    let e = events.Observe c.args.objects.now 0 in
    let rest = c.args.rest.now in
    on_ok_weaker c.look.result
    (λ did. ready_moved e rest _ p c.look.new.self c.args.channel.now c.look.new.channel c.requires.ready refl refl
    (observes (player_of p) c.args.objects.now rest (sym c.if-may_ask.ensures) ∙ does_player p e rest c.requires.ready.linked refl)
    (same_link e rest p.closed false p c.look.new.self c.args.channel.now c.look.new.channel c.requires.ready.linked did))
    c.look.ensures

pub returns-else-may_ask : goal.returns-else-may_ask
returns-else-may_ask c =
    let p = c.args.self.now in
    still_at _ p c.args.channel.now (waits_observe (player_of p) c.args.objects.now c.args.rest.now (sym c.if-may_ask.ensures)) c.requires.flags
