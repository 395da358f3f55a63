-- What is proved by hand of `Player::take`.
use Rattle.std.specs.Prelude.{is_some}
use Rattle.sv_client.specs.Answers.{got_now}
use Rattle.sv_client.proofs.Keeping.{latest_is}
use Rattle.sv_player.proofs.Doing.{changes_for, unseen, did_told}
use Rattle.sv_player.proofs.playing.Player.take.Goals as goal

pub tell-requires-clause-changes : goal.tell-requires-clause-changes
tell-requires-clause-changes g c =
    let p = c.args.self.now in
    changes_for p c.requires.going c.take.new.self (got_now p.client.events c.args.reply) c.in_ok-done.ensures.who c.in_ok-done.ensures.got
    (λ w. w.now.shape) c.args.watch c.requires.watch (record { current = latest_is p.client.who p.client.events c.args.reply c.in_ok-done.ensures.fine; taken = c.in_ok-done.ensures.fine })

pub tell-requires-clause-unseen : goal.tell-requires-clause-unseen
tell-requires-clause-unseen g c = unseen c.args.self.now (is_some c.args.watch) c.requires.going c.requires.watched

pub returns-clause-ok : goal.returns-clause-ok
returns-clause-ok g c =
    let p = c.args.self.now in
    did_told p c.requires.going c.take.new.self (got_now p.client.events c.args.reply) c.in_ok-done.ensures.who c.in_ok-done.ensures.got
    p.left.now c.tell.new.self c.tell.ensures.same.0 c.tell.ensures.same.1 c.tell.ensures.same.3 c.tell.ensures.same.4 c.tell.ensures.same.2 c.in_ok-tell.ensures.told c.in_ok-tell.ensures.seen c.tell.ensures.count
