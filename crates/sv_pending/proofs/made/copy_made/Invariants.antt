-- The loop invariant of `copy_made`.
use Rattle.std.proofs.Common.{◌≡◌, take}
use Rattle.sv_pending.proofs.made.copy_made.Given as goal

abbrev pub invariant-loop-one : goal.invariant-loop-one
invariant-loop-one l = l.copies.items ≡ take l.one-index l.made
