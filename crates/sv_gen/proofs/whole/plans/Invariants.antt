-- The plans so far are those of the clients so far.
use Rattle.std.proofs.Common.{◌≡◌, map}
use Rattle.sv_world.specs.Control.{below}
use Rattle.sv_gen.specs.Generated.{plan}
use Rattle.sv_gen.proofs.whole.plans.Given as goal

abbrev pub invariant-loop-client : goal.invariant-loop-client
invariant-loop-client l = l.plans.items ≡ map (plan l.rounds) (below l.client)
