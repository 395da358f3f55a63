-- What is proved by hand of `Player::start`.
use Rattle.sv_player.proofs.Stepping.{none_played}
use Rattle.sv_player.proofs.playing.Player.start.Goals as goal

pub returns-in-Err : goal.returns-in-Err
returns-in-Err g c = none_played g.E.End.told g.E.End.faults g.E.End.calm c.args.self.now c.args.ends.now c.requires.new c.requires.fresh
