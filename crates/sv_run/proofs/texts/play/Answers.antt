-- The counts of faults, by the part of a run on threads that ended it.
use Rattle.std.proofs.Common.{refl, ap}
use Rattle.sv_ending.specs.declared.ending.Ending.TheVariants as endings
use Rattle.sv_ending.specs.Statuses.{Counts, counts}
use Rattle.sv_ending.proofs.Counts.{raised_by, same_counts}
use Rattle.sv_threads.proofs.Endings.{fault_raises}
use Rattle.sv_run.specs.declared.playing.Threaded.{Threaded}
use Rattle.sv_run.proofs.Pairs.{untouched_pairs, matched_pairs, fault_pairs}
use Rattle.sv_run.proofs.texts.play.Goals as goal

pub returns-in_err-scenario-clause-raises : goal.returns-in_err-scenario-clause-raises
returns-in_err-scenario-clause-raises g c =
    λ k. raised_by c.from_residual.result c.in_err-scenario.field-0.0 c.from_residual.ensures.1 _ _
    (c.in_err-scenario.ensures.raises (counts 0 (g.C.Crew.faults c.args.crew.now) (g.N.Net.faults c.args.net.now) k))

pub returns-in-Err-clause-raises : goal.returns-in-Err-clause-raises
returns-in-Err-clause-raises g c =
    λ k. rw c.ending_of_fault.ensures
    (fault_raises Threaded _ _ _ _ _ _ k c.in-Err.fault (ap (λ (x : Counts). x.files) (c.in_ok-scenario.ensures.raises (counts 0 0 0 0))) c.in-Err.ensures.cause)

pub returns-in_err-text-clause-raises : goal.returns-in_err-text-clause-raises
returns-in_err-text-clause-raises g c =
    λ k. raised_by c.from_residual-in_err-text.result endings.Memory c.from_residual-in_err-text.ensures.1 _ _
    (same_counts _ _ _ _ _ _ k (ap (λ (x : Counts). x.files) (c.in_ok-scenario.ensures.raises (counts 0 0 0 0))) c.in-Ok.ensures.cause.0 c.in-Ok.ensures.cause.1)

pub returns-clause-raises : goal.returns-clause-raises
returns-clause-raises g c =
    λ k. same_counts _ _ _ _ _ _ k (ap (λ (x : Counts). x.files) (c.in_ok-scenario.ensures.raises (counts 0 0 0 0))) c.in-Ok.ensures.cause.0 c.in-Ok.ensures.cause.1

pub returns-in_err-scenario-clause-pairs : goal.returns-in_err-scenario-clause-pairs
returns-in_err-scenario-clause-pairs g c = untouched_pairs _ _ _ refl

pub returns-in-Err-clause-pairs : goal.returns-in-Err-clause-pairs
returns-in-Err-clause-pairs g c = rw c.ending_of_fault.ensures (fault_pairs Threaded c.in-Err.fault _ _ c.in-Err.ensures.pairs)

pub returns-in_err-text-clause-pairs : goal.returns-in_err-text-clause-pairs
returns-in_err-text-clause-pairs g c = matched_pairs _ _ _ c.in-Ok.ensures.pairs

pub returns-clause-pairs : goal.returns-clause-pairs
returns-clause-pairs g c = matched_pairs _ _ _ c.in-Ok.ensures.pairs
