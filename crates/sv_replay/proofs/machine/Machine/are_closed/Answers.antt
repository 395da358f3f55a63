-- Each client so far is closed, so all are.
use Rattle.std.proofs.Common.{length, ap, arith}
use Rattle.sv_replay.proofs.Heading.{all_closed}
use Rattle.sv_replay.proofs.machine.Machine.are_closed.Goals as goal

pub returns : goal.returns
returns g c = λ _. all_closed c.args.self.now.players.items (λ k d l. c.loop-player.invariant k d (omega (arith, c.deref-player-items.ensures.len, ap length c.deref-player-items.ensures.value)))
