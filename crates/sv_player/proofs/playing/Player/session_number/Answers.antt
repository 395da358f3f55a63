-- What is proved by hand of `Player::session_number`.
use Rattle.std.proofs.Common.{arith}
use Rattle.sv_client.proofs.Shifts.{joins_few}
use Rattle.sv_player.proofs.Numbering.{latest_joined}
use Rattle.sv_player.proofs.playing.Player.session_number.Goals as goal

pub overflow_sub-result : goal.overflow_sub-result
overflow_sub-result c = let count = c.sessions.ensures in let last = latest_joined c.args.self.now c.requires.going c.requires.joined in omega (arith, count, last)

pub overflow_add-result : goal.overflow_add-result
overflow_add-result c =
    let count = c.sessions.ensures in
    let few = joins_few c.args.self.now.client.who c.args.self.now.client.events c.requires.going.proper in
    let first = c.requires.going.first in
    omega (arith, count, few, first)

pub returns : goal.returns
returns c = let count = c.sessions.ensures in let last = latest_joined c.args.self.now c.requires.going c.requires.joined in omega (arith, count, last)
