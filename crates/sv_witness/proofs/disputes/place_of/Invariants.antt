-- The loop invariant of `place_of`.
use Rattle.sv_witness.proofs.Inserted.{EntersFrom}
use Rattle.sv_witness.proofs.disputes.place_of.Given as goal

abbrev pub invariant-loop-place : goal.invariant-loop-place
invariant-loop-place l = EntersFrom l.dispute l.disputes l.place
