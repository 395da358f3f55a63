-- The loop invariant of `next_place`.
use Rattle.sv_check.proofs.Placing.{IsSought}
use Rattle.sv_check.proofs.actor.next_place.Given as goal

abbrev pub invariant-loop-place : goal.invariant-loop-place
invariant-loop-place l = IsSought l.entries l.from l.session l.place
