-- The versions stay those of two objects.
use Rattle.std.proofs.Common.{◌≡◌}
use Rattle.test_world.proofs.versions.filled.Given as goal

abbrev pub invariant-loop-pos : goal.invariant-loop-pos
invariant-loop-pos l = l.versions.shape.objects ≡ 2
