-- What became of the pairs, by the part of a run on threads that ended it.
use Rattle.std.proofs.Common.{refl}
use Rattle.sv_run.specs.declared.playing.Threaded.{Threaded}
use Rattle.sv_run.proofs.Pairs.{untouched_pairs, matched_pairs, fault_pairs}
use Rattle.sv_run.proofs.texts.load.Goals as goal

pub returns-in_err-scenario-clause-pairs : goal.returns-in_err-scenario-clause-pairs
returns-in_err-scenario-clause-pairs g c = untouched_pairs _ _ _ refl

pub returns-in-Err-clause-pairs : goal.returns-in-Err-clause-pairs
returns-in-Err-clause-pairs g c = rw c.ending_of_fault.ensures (fault_pairs Threaded c.in-Err.fault _ _ c.in-Err.ensures.pairs)

pub returns-in_err-text-clause-pairs : goal.returns-in_err-text-clause-pairs
returns-in_err-text-clause-pairs g c = matched_pairs _ _ _ c.in-Ok.ensures.pairs

pub returns-clause-pairs : goal.returns-clause-pairs
returns-clause-pairs g c = matched_pairs _ _ _ c.in-Ok.ensures.pairs
