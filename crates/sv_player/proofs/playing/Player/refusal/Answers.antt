-- What is proved by hand of `Player::refusal`.
use Rattle.sv_player.proofs.Receiving.{frame_came, untold}
use Rattle.sv_player.proofs.playing.Player.refusal.Goals as goal

pub unreachable-requires : goal.unreachable-requires
unreachable-requires c =
    frame_came c.args.inbox.now c.requires.refused.1.payload c.requires.refused.1.first (untold c.first_payload.result c.args.inbox.now c.first_payload.ensures c.in_default.is)
