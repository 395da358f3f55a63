-- A reply is taken where the client's end is open.
use Rattle.std.proofs.Common.{sym, ◌∙◌, subst}
use Rattle.std.proofs.lemmas.Result.{on_ok_weaker}
use Rattle.law_schedule.specs.Players.{Player}
use Rattle.sv_replay.specs.Messages.{AsksMessages}
use Rattle.sv_replay.specs.Machine.{player_of, MovedPlayer}
use Rattle.sv_replay.proofs.Events.{up_must}
use Rattle.sv_replay.proofs.Moving.{take_shut, take_between, take_linked, still_at}
use Rattle.sv_replay.proofs.playing.Playing.take.Goals as goal
use Rattle.sv_replay.proofs.playing.Playing.take.Goals.{then-self-via-then-self, then-self-via-else-self+then-self-2}

pub returns-then-self-clause-taken : goal.returns-then-self-clause-taken
returns-then-self-clause-taken c =
    let p = c.args.self.now in
    let d = c.args.channel.now in
    still_at _ p d
    (elim c.then-self.branch [
      | then-self-via-then-self w ↦ take_shut (player_of p) d.replies w.if-self.true
      | then-self-via-else-self+then-self-2 w ↦ take_between (player_of p) d.replies w.if-self.false (up_must p.first p.client.events ∙ sym c.requires.flags.between ∙ w.if-self-2.true)
    ])
    c.requires.flags

pub take_next-requires-clause-after : goal.take_next-requires-clause-after
take_next-requires-clause-after c =
    let p = c.args.self.now in
    subst AsksMessages (take_linked (player_of p) c.args.channel.now.replies c.if-self.false (up_must p.first p.client.events ∙ sym c.requires.flags.between ∙ c.if-self-2.false)) c.requires.after

pub returns-clause-taken : goal.returns-clause-taken
returns-clause-taken c =
    let p = c.args.self.now in
    let d = c.args.channel.now in
    on_ok_weaker c.take_next.result
    (λ did. subst (λ (x : Player). MovedPlayer x p c.take_next.new.self d c.take_next.new.channel)
    (sym (take_linked (player_of p) d.replies c.if-self.false (up_must p.first p.client.events ∙ sym c.requires.flags.between ∙ c.if-self-2.false))) did)
    c.take_next.ensures.taken
