-- The lines so far are taken.
use Rattle.std.proofs.Common.{length}
use Rattle.sv_keeper.specs.Walks.{IsWalk, TakesLines}
use Rattle.sv_keeper.proofs.walking.LineWalk.take_all.Given as goal

abbrev pub invariant-loop-rest : goal.invariant-loop-rest
invariant-loop-rest l = IsWalk l.self × TakesLines l.fn.self.core l.self.core l.fn.text l.rest

abbrev pub decreases-loop-rest : goal.decreases-loop-rest
decreases-loop-rest l = length l.rest
