-- What is proved by hand of `Player::note`.
use Rattle.std.proofs.Common.{refl, ap, arith}
use Rattle.sv_client.specs.Seen.{ClientView}
use Rattle.sv_player.proofs.Doing.{did_quiet, mark_quiet}
use Rattle.sv_player.proofs.playing.Player.note.Goals as goal

pub returns-clause-ok : goal.returns-clause-ok
returns-clause-ok c =
    did_quiet _ _ _ _ (ap (λ (v : ClientView). v.who) c.in_ok-note.ensures.ok) (ap (λ (v : ClientView). v.events) c.in_ok-note.ensures.ok) refl refl refl refl refl refl (omega arith) (mark_quiet c.args.mark)
