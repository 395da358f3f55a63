-- The sessions so far have their Ends.
use Rattle.std.proofs.Common.{◌≡◌, false, length}
use Rattle.sv_living.specs.Sessions.{open_sessions}
use Rattle.sv_living.specs.World.{WorldView}
use Rattle.sv_keeper.specs.Opened.{AreEnded}
use Rattle.sv_keeper.proofs.keeper.Keeper.end_sessions.Given as goal

abbrev pub invariant-loop-session : goal.invariant-loop-session
invariant-loop-session g l =
    (l.self.is_broken ≡ false) × (l.self.log ≡ l.fn.self.log) × (l.self.synced ≡ l.fn.self.synced)
    × ((w : WorldView) → AreEnded l.self.world w → AreEnded l.fn.self.world w)

abbrev pub decreases-loop-session : goal.decreases-loop-session
decreases-loop-session g l = length (open_sessions l.self.world.history)
