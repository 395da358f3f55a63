-- The values so far are those of the objects so far.
use Rattle.std.proofs.Common.{◌≡◌, map}
use Rattle.sv_world.specs.Control.{below}
use Rattle.sv_gen.specs.Generated.{opening}
use Rattle.sv_gen.proofs.whole.openings.Given as goal

abbrev pub invariant-loop-object : goal.invariant-loop-object
invariant-loop-object l = l.values.items ≡ map opening (below l.object)
