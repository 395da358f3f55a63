-- What is proved by hand of `Player::observe`.
use Rattle.std.proofs.Common.{◌∷◌, List, refl, ap, ◌∙◌, arith}
use Rattle.sv_world.specs.declared.world.ObjectId.{ObjectId}
use Rattle.sv_client.specs.declared.trace.Event.TheVariants as events
use Rattle.sv_client.specs.Seen.{ClientView}
use Rattle.sv_player.proofs.Doing.{did_quiet}
use Rattle.sv_player.proofs.playing.Player.observe.Goals as goal

pub returns-clause-ok : goal.returns-clause-ok
returns-clause-ok c =
    let same = c.in_ok-copy.ensures ∙ c.as_slice.ensures in
    did_quiet _ _ _ _ (ap (λ (v : ClientView). v.who) c.in-Ok.ensures.ok)
    (ap (λ (v : ClientView). v.events) c.in-Ok.ensures.ok ∙ ap (λ (os : List ObjectId). events.Observe os 0 ∷ c.args.self.now.client.events) same)
    refl refl refl refl refl refl (omega arith) refl
