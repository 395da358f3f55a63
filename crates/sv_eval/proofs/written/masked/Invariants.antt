-- The objects so far, and what is left at the slots in the mask.
use Rattle.std.proofs.Common.{◌≡◌, ◌++◌, drop}
use Rattle.sv_world.specs.Sets.{at_mask}
use Rattle.sv_eval.proofs.written.masked.Given as goal

abbrev pub invariant-loop-slot : goal.invariant-loop-slot
invariant-loop-slot l = l.written ++ at_mask l.mask l.slot (drop l.slot l.reads) ≡ at_mask l.mask 0 l.reads
