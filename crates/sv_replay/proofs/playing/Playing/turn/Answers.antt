-- A turn makes the client the next player.
use Rattle.std.proofs.Common.{sym, ◌∙◌, subst}
use Rattle.std.proofs.lemmas.Result.{on_ok_weaker}
use Rattle.law_schedule.specs.Players.{Player}
use Rattle.law_schedule.proofs.DoneShut.{turn-closed}
use Rattle.sv_replay.specs.Messages.{IsAfterTurn}
use Rattle.sv_replay.specs.Machine.{player_of, MovedPlayer}
use Rattle.sv_replay.proofs.Events.{up_must, up_welcomed}
use Rattle.sv_replay.proofs.Moving.{turn_waits, turn_steps, may_join, asks_join, joined_moved, still_at}
use Rattle.sv_replay.proofs.playing.Playing.turn.Goals as goal

pub returns-then-self : goal.returns-then-self
returns-then-self c =
    let p = c.args.self.now in
    still_at _ p c.args.channel.now (turn-closed (player_of p) c.if-self.true) c.requires.flags

pub join-requires-clause-few : goal.join-requires-clause-few
join-requires-clause-few c = may_join c.args.self.now c.if-self.false (sym c.requires.flags.between ∙ c.if-self-2.true) c.requires.after.fit

pub join-requires-clause-messages : goal.join-requires-clause-messages
join-requires-clause-messages c = asks_join c.args.self.now c.requires.fit c.if-self.false (sym c.requires.flags.between ∙ c.if-self-2.true) c.requires.after.asks

pub returns-then-self-2 : goal.returns-then-self-2
returns-then-self-2 c =
    let p = c.args.self.now in
    on_ok_weaker c.join.result (λ did. joined_moved p c.join.new.self c.args.channel.now c.join.new.channel c.requires.fit c.if-self.false (sym c.requires.flags.between ∙ c.if-self-2.true) did) c.join.ensures

pub step-requires-clause-after : goal.step-requires-clause-after
step-requires-clause-after c =
    let p = c.args.self.now in
    subst IsAfterTurn (turn_steps (player_of p) c.if-self.false (up_must p.first p.client.events ∙ sym c.requires.flags.between ∙ c.if-self-2.false) (up_welcomed p.first p.client.events ∙ sym c.requires.flags.welcomed ∙ c.if-self-3.true)) c.requires.after

pub returns-then-self-3 : goal.returns-then-self-3
returns-then-self-3 c =
    let p = c.args.self.now in
    on_ok_weaker c.step.result (λ h. subst (λ (n : Player). MovedPlayer n p c.step.new.self c.args.channel.now c.step.new.channel)
    (sym (turn_steps (player_of p) c.if-self.false (up_must p.first p.client.events ∙ sym c.requires.flags.between ∙ c.if-self-2.false) (up_welcomed p.first p.client.events ∙ sym c.requires.flags.welcomed ∙ c.if-self-3.true))) h) c.step.ensures

pub returns : goal.returns
returns c =
    let p = c.args.self.now in
    still_at _ p c.args.channel.now (turn_waits (player_of p) c.if-self.false (up_must p.first p.client.events ∙ sym c.requires.flags.between ∙ c.if-self-2.false) (up_welcomed p.first p.client.events ∙ sym c.requires.flags.welcomed ∙ c.if-self-3.false)) c.requires.flags
