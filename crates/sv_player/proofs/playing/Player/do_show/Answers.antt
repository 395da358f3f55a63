-- What is proved by hand of `Player::do_show`.
use Rattle.sv_player.proofs.Going.{few_counted}
use Rattle.sv_player.proofs.playing.Player.do_show.Goals as goal

pub note-requires : goal.note-requires
note-requires c = record { count = few_counted c.args.self.now c.requires.going }
