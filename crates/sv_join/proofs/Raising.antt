-- The counts of faults, by the ending of a join or of a part of one.
use Rattle.std.proofs.Common.{◌≡◌, refl, ℕ, List, ap}
use Rattle.std.specs.Prelude.{IsErrAnd, Option, Result, Err}
use Rattle.sv_ending.specs.declared.ending.Ending.{Ending}
use Rattle.sv_ending.specs.declared.ending.Ending.TheVariants as plain
use Rattle.sv_ending.specs.Statuses.{Counts, counts, IsScenarioRead, Raises as PlainRaises}
use Rattle.sv_ending.proofs.Counts.{came, same_counts}
use Rattle.sv_join.specs.declared.outcome.Joined.{Joined}
use Rattle.sv_join.specs.declared.outcome.JoinFault.{JoinFault}
use Rattle.sv_join.specs.declared.outcome.JoinFault.TheVariants as faults
use Rattle.sv_join.specs.declared.ending.JoinEnding.{JoinEnding}
use Rattle.sv_join.specs.declared.ending.JoinEnding.TheVariants as endings
use Rattle.sv_join.specs.Joining.{DoorCause}
use Rattle.sv_join.specs.Statuses.{Raises, ending_of, ending_of_fault}

-- ---- Answers that come by a `?`

pub raised_by : {T : Type 0} (r : Result T JoinEnding) (e : JoinEnding) → IsErrAnd r (λ x. x ≡ e) → (before now : Counts) → Raises before now e → Raises before now (ending_of r)
raised_by r e by before now h = rw (came r e by) h

-- ---- Each part

-- No scenario was read.
pub unread_raises : (held : Option (List ℕ)) (before now : Counts) (e : Ending) → IsScenarioRead held (Err e) → PlainRaises before now e → Raises before now (endings.Plain e)
unread_raises held before now plain.File read h = h
unread_raises held before now (plain.Scenario line) read h = h
unread_raises held before now plain.Memory read h = h
unread_raises held before now plain.Done read h = absurd read
unread_raises held before now plain.Words read h = absurd read
unread_raises held before now plain.Start read h = absurd read
unread_raises held before now plain.Link read h = absurd read
unread_raises held before now plain.Out read h = absurd read
unread_raises held before now plain.Range read h = absurd read

-- The client did not come to the end of its script.
pub stopped_raises : (f0 f1 n0 n1 k : ℕ) (fault : JoinFault) → f1 ≡ f0 → DoorCause {A = Joined} n0 n1 (Err fault) → Raises (counts f0 0 n0 k) (counts f1 0 n1 k) (ending_of_fault fault)
stopped_raises f0 f1 n0 n1 k faults.Link f d = ap (λ (x : ℕ). counts x 0 n1 k) f
stopped_raises f0 f1 n0 n1 k (faults.Reply fault) f d = same_counts f0 f1 0 0 n0 n1 k f refl d
stopped_raises f0 f1 n0 n1 k faults.Closed f d = same_counts f0 f1 0 0 n0 n1 k f refl d
stopped_raises f0 f1 n0 n1 k faults.Memory f d = same_counts f0 f1 0 0 n0 n1 k f refl d
