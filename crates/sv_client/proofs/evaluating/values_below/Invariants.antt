-- The loop invariant of `values_below`.
use Rattle.std.proofs.Common.{◌≡◌, take}
use Rattle.sv_world.specs.Sets.{numbers_of}
use Rattle.sv_client.specs.Evaluating.{values_below}
use Rattle.sv_client.proofs.evaluating.values_below.Given as goal

abbrev pub invariant-loop-object : goal.invariant-loop-object
invariant-loop-object l = l.values.items ≡ values_below l.versions.held l.pos (numbers_of (take l.object-index l.objects))
