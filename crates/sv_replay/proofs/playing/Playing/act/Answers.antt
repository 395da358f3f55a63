-- An action is made where there is room for it.
use Rattle.std.proofs.Common.{◌≤◌, ◌<◌, false, length, sym, ap, ◌∙◌, subst, refl}
use Rattle.std.proofs.lemmas.Result.{on_ok_weaker}
use Rattle.sv_client.specs.declared.trace.Event.TheVariants as events
use Rattle.sv_client.specs.Traces.{pending_of}
use Rattle.sv_client.proofs.Shifts.{up_pending}
use Rattle.sv_replay.specs.Messages.{IsAfterTurn}
use Rattle.sv_replay.specs.Machine.{player_of}
use Rattle.sv_replay.proofs.Moving.{acts, waits_full, waits_busy, down_make, does_player, same_link, asks_ready, ready_moved, still_at}
use Rattle.sv_replay.proofs.playing.Playing.act.Goals as goal
use Rattle.sv_replay.proofs.playing.Playing.act.Goals.{else-pending-lt-MOST_PENDING-via-then-pending-lt-MOST_PENDING+else-may_ask, else-pending-lt-MOST_PENDING-via-else-pending-lt-MOST_PENDING}

pub make-requires-clause-may : goal.make-requires-clause-may
make-requires-clause-may c =
    let p = c.args.self.now in
    let few : length (pending_of (player_of p).events) < 8 = subst (λ n. n < 8) (c.pending.ensures ∙ ap length (sym (up_pending p.first p.client.events))) c.if-pending-lt-MOST_PENDING.true in
    let after = subst IsAfterTurn (acts (player_of p) c.args.action.now c.args.rest.now few (sym c.if-may_ask.ensures)) c.requires.after in
    down_make p.client.who p.first p.client.events c.args.action.now after.fit.proper.0

pub make-requires-clause-messages : goal.make-requires-clause-messages
make-requires-clause-messages c =
    let p = c.args.self.now in
    let a = c.args.action.now in
    let rest = c.args.rest.now in
    let few : length (pending_of (player_of p).events) < 8 = subst (λ n. n < 8) (c.pending.ensures ∙ ap length (sym (up_pending p.first p.client.events))) c.if-pending-lt-MOST_PENDING.true in
    asks_ready p (events.Make a) rest _ c.requires.ready refl refl (acts (player_of p) a rest few (sym c.if-may_ask.ensures) ∙ does_player p (events.Make a) rest c.requires.ready.linked refl) c.requires.after.asks

pub returns-then-may_ask : goal.returns-then-may_ask
returns-then-may_ask c =
    let p = c.args.self.now in
    let a = c.args.action.now in
    let rest = c.args.rest.now in
    let few : length (pending_of (player_of p).events) < 8 = subst (λ n. n < 8) (c.pending.ensures ∙ ap length (sym (up_pending p.first p.client.events))) c.if-pending-lt-MOST_PENDING.true in
    on_ok_weaker c.make.result
    (λ did. ready_moved (events.Make a) rest _ p c.make.new.self c.args.channel.now c.make.new.channel c.requires.ready refl refl
    (acts (player_of p) a rest few (sym c.if-may_ask.ensures) ∙ does_player p (events.Make a) rest c.requires.ready.linked refl)
    (same_link (events.Make a) rest p.closed false p c.make.new.self c.args.channel.now c.make.new.channel c.requires.ready.linked did))
    c.make.ensures

pub returns-else-pending-lt-MOST_PENDING : goal.returns-else-pending-lt-MOST_PENDING
returns-else-pending-lt-MOST_PENDING c =
    let p = c.args.self.now in
    still_at _ p c.args.channel.now
    (elim c.else-pending-lt-MOST_PENDING.branch [
      | else-pending-lt-MOST_PENDING-via-then-pending-lt-MOST_PENDING+else-may_ask w ↦ waits_busy (player_of p) c.args.action.now c.args.rest.now (sym w.if-may_ask.ensures)
      | else-pending-lt-MOST_PENDING-via-else-pending-lt-MOST_PENDING w ↦ waits_full (player_of p) c.args.action.now c.args.rest.now
          (subst (λ n. 8 ≤ n) (c.pending.ensures ∙ ap length (sym (up_pending p.first p.client.events))) w.if-pending-lt-MOST_PENDING.false)
    ])
    c.requires.flags
