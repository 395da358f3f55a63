-- The values taken so far, and what is left at the slots in the mask.
use Rattle.std.proofs.Common.{◌≡◌, ◌++◌}
use Rattle.sv_world.specs.Sets.{at_mask}
use Rattle.sv_eval.proofs.evaluation.take_masked.Given as goal

abbrev pub invariant-loop-place : goal.invariant-loop-place
invariant-loop-place l = l.taken ++ at_mask l.mask l.place-iterator.count l.place-iterator.iter.rest.items ≡ at_mask l.mask 0 l.fn.slots.items
