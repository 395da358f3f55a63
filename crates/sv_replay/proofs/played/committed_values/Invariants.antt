-- The values so far, and those of the objects that are left, are the world.
use Rattle.std.proofs.Common.{◌≡◌, ◌++◌, drop}
use Rattle.sv_replay.proofs.played.committed_values.Given as goal

abbrev pub invariant-loop-object : goal.invariant-loop-object
invariant-loop-object g l = l.values ++ drop l.object (g.S.Server.world l.server) ≡ g.S.Server.world l.server
