-- What is proved by hand of `Player::read_first`.
use Rattle.sv_player.proofs.Receiving.{untold}
use Rattle.sv_player.proofs.playing.Player.read_first.Goals as goal

pub unreachable-requires : goal.unreachable-requires
unreachable-requires c = c.requires.came (untold c.first_payload.result c.args.inbox.now c.first_payload.ensures c.in_default.is)
