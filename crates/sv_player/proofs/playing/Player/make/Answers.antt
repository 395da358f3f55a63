-- What is proved by hand of `Player::make`.
use Rattle.std.proofs.Common.{◌∷◌, ap, ◌∙◌}
use Rattle.std.specs.Prelude.{is_some}
use Rattle.sv_world.specs.declared.action.Action.{Action}
use Rattle.sv_client.specs.declared.trace.Event.TheVariants as events
use Rattle.sv_client.specs.Seen.{ClientView}
use Rattle.sv_player.proofs.Doing.{changes_for, unseen, did_told}
use Rattle.sv_player.proofs.playing.Player.make.Goals as goal

pub tell-requires-clause-changes : goal.tell-requires-clause-changes
tell-requires-clause-changes g c =
    changes_for c.args.self.now c.requires.going c.make.new.self (events.Make c.args.action.now) (ap (λ (v : ClientView). v.who) c.in-Ok.ensures.ok) (ap (λ (v : ClientView). v.events) c.in-Ok.ensures.ok ∙ ap (λ (a : Action). events.Make a ∷ c.args.self.now.client.events) c.in_ok-copy.ensures)
    (λ w. w.now.shape) c.args.watch c.requires.watch c.requires.may

pub tell-requires-clause-unseen : goal.tell-requires-clause-unseen
tell-requires-clause-unseen g c = unseen c.args.self.now (is_some c.args.watch) c.requires.going c.requires.watched

pub returns-clause-ok : goal.returns-clause-ok
returns-clause-ok g c =
    did_told c.args.self.now c.requires.going c.make.new.self (events.Make c.args.action.now) (ap (λ (v : ClientView). v.who) c.in-Ok.ensures.ok) (ap (λ (v : ClientView). v.events) c.in-Ok.ensures.ok ∙ ap (λ (a : Action). events.Make a ∷ c.args.self.now.client.events) c.in_ok-copy.ensures)
    c.args.rest.now c.tell.new.self c.tell.ensures.same.0 c.tell.ensures.same.1 c.tell.ensures.same.3 c.tell.ensures.same.4 c.tell.ensures.same.2 c.in_ok-tell.ensures.told c.in_ok-tell.ensures.seen c.tell.ensures.count
