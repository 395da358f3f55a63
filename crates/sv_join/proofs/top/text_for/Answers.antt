-- The counts of faults, by the part of the join that ended it.
use Rattle.std.proofs.Common.{refl, ap}
use Rattle.sv_ending.specs.declared.ending.Ending.TheVariants as plain
use Rattle.sv_ending.specs.Statuses.{Counts, counts}
use Rattle.sv_ending.proofs.Counts.{same_counts}
use Rattle.sv_join.specs.declared.ending.JoinEnding.TheVariants as endings
use Rattle.sv_join.specs.Statuses.{ending_of_fault}
use Rattle.sv_join.proofs.Raising.{raised_by, unread_raises, stopped_raises}
use Rattle.sv_join.proofs.top.text_for.Goals as goal

pub returns-in_err-scenario-clause-raises : goal.returns-in_err-scenario-clause-raises
returns-in_err-scenario-clause-raises g c =
    λ k. raised_by c.from_residual.result (endings.Plain c.in_err-scenario.field-0.0) c.from_residual.ensures.1 _ _
    (unread_raises _ _ _ c.in_err-scenario.field-0.0 c.in_err-scenario.ensures.read (c.in_err-scenario.ensures.raises (counts 0 0 (g.D.Door.faults c.args.door.now) k)))

pub returns-then-join-len-clause-raises : goal.returns-then-join-len-clause-raises
returns-then-join-len-clause-raises g c =
    λ k. same_counts _ _ 0 0 _ _ k (ap (λ (x : Counts). x.files) (c.in_ok-scenario.ensures.raises (counts 0 0 0 0))) refl refl

pub returns-in_err-joined-clause-raises : goal.returns-in_err-joined-clause-raises
returns-in_err-joined-clause-raises g c =
    λ k. raised_by c.from_residual-in_err-joined.result (ending_of_fault c.in_err-joined.field-0.0) c.from_residual-in_err-joined.ensures.1 _ _
    (stopped_raises _ _ _ _ k c.in_err-joined.field-0.0 (ap (λ (x : Counts). x.files) (c.in_ok-scenario.ensures.raises (counts 0 0 0 0))) c.in_err-joined.ensures.cause)

pub returns-in_err-join_text-clause-raises : goal.returns-in_err-join_text-clause-raises
returns-in_err-join_text-clause-raises g c =
    λ k. raised_by c.from_residual-in_err-join_text.result (endings.Plain plain.Memory) c.from_residual-in_err-join_text.ensures.1 _ _
    (same_counts _ _ 0 0 _ _ k (ap (λ (x : Counts). x.files) (c.in_ok-scenario.ensures.raises (counts 0 0 0 0))) refl c.in_ok-joined.ensures.cause)

pub returns-clause-raises : goal.returns-clause-raises
returns-clause-raises g c =
    λ k. same_counts _ _ 0 0 _ _ k (ap (λ (x : Counts). x.files) (c.in_ok-scenario.ensures.raises (counts 0 0 0 0))) refl c.in_ok-joined.ensures.cause
