-- The counts of faults, by the part of the call that ended it.
use Rattle.std.proofs.Common.{ap, arith, refl}
use Rattle.sv_ending.specs.declared.ending.Ending.TheVariants as endings
use Rattle.sv_ending.specs.Statuses.{Counts, counts}
use Rattle.sv_ending.proofs.Counts.{came, raised_by, same_counts}
use Rattle.sv_sequencer.specs.Step.{SequencerView}
use Rattle.sv_threads.proofs.Endings.{fault_raises}
use Rattle.sv_serve.proofs.Endings.{touched, untouched_back, done_back, unmade_back}
use Rattle.sv_serve.proofs.texts.served_text.Goals as goal

pub returns-in_err-scenario-clause-raises : goal.returns-in_err-scenario-clause-raises
returns-in_err-scenario-clause-raises g c =
    λ k. raised_by c.from_residual.result c.in_err-scenario.field-0.0 c.from_residual.ensures.1 _ _
    (c.in_err-scenario.ensures.raises (counts 0 (g.C.Crew.faults c.args.crew.now) (g.D.Door.faults c.args.door.now) k))

pub returns-in-Err-clause-raises : goal.returns-in-Err-clause-raises
returns-in-Err-clause-raises g c =
    λ k. rw c.ending_of_fault.ensures
    (fault_raises SequencerView _ _ _ _ _ _ k c.in-Err.fault (ap (λ (x : Counts). x.files) (c.in_ok-scenario.ensures.raises (counts 0 0 0 0))) c.in-Err.ensures.cause)

pub returns-in_err-hosted_text-clause-made : goal.returns-in_err-hosted_text-clause-made
returns-in_err-hosted_text-clause-made g c =
    rw (came c.from_residual-in_err-hosted_text.result endings.Memory c.from_residual-in_err-hosted_text.ensures.1) tt

pub returns-in_err-hosted_text-clause-raises : goal.returns-in_err-hosted_text-clause-raises
returns-in_err-hosted_text-clause-raises g c =
    λ k. raised_by c.from_residual-in_err-hosted_text.result endings.Memory c.from_residual-in_err-hosted_text.ensures.1 _ _
    (same_counts _ _ _ _ _ _ k (ap (λ (x : Counts). x.files) (c.in_ok-scenario.ensures.raises (counts 0 0 0 0))) c.in-Ok.ensures.cause.0 c.in-Ok.ensures.cause.1)

pub returns-in_err-hosted_text-clause-apart : goal.returns-in_err-hosted_text-clause-apart
returns-in_err-hosted_text-clause-apart g c =
    rw (came c.from_residual-in_err-hosted_text.result endings.Memory c.from_residual-in_err-hosted_text.ensures.1)
    (touched 8 _ _ _ _ _ _ (λ low high. omega (arith, high)))

pub returns-clause-raises : goal.returns-clause-raises
returns-clause-raises g c =
    λ k. same_counts _ _ _ _ _ _ k (ap (λ (x : Counts). x.files) (c.in_ok-scenario.ensures.raises (counts 0 0 0 0))) c.in-Ok.ensures.cause.0 c.in-Ok.ensures.cause.1

pub returns-in_err-scenario-clause-back : goal.returns-in_err-scenario-clause-back
returns-in_err-scenario-clause-back g c = untouched_back _ _ _ _ refl

pub returns-clause-back : goal.returns-clause-back
returns-clause-back g c = done_back _ _ _ _ c.in-Ok.ensures.back

pub returns-in_err-hosted_text-clause-back : goal.returns-in_err-hosted_text-clause-back
returns-in_err-hosted_text-clause-back g c =
    rw (came c.from_residual-in_err-hosted_text.result endings.Memory c.from_residual-in_err-hosted_text.ensures.1)
    (unmade_back _ _ _ _ c.in-Ok.ensures.back)
