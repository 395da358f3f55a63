-- Each client so far is closed.
use Rattle.std.proofs.Common.{◌≡◌, ℕ, ◌<◌, true, get_or}
use Rattle.sv_replay.specs.declared.playing.Playing.{Playing}
use Rattle.sv_replay.proofs.machine.Machine.are_closed.Given as goal

abbrev pub invariant-loop-player : goal.invariant-loop-player
invariant-loop-player g l = (k : ℕ) (d : Playing) → k < l.player-index → (get_or l.self.players.items k d).closed ≡ true
