-- The counts of faults, by why a run on threads failed.
use Rattle.std.proofs.Common.{◌≡◌, refl, ℕ}
use Rattle.std.specs.Prelude.{Err}
use Rattle.sv_ending.specs.Statuses.{counts, Raises}
use Rattle.sv_ending.proofs.Counts.{same_counts}
use Rattle.sv_threads.specs.declared.outcome.PlayFault.{PlayFault}
use Rattle.sv_threads.specs.declared.outcome.PlayFault.TheVariants as faults
use Rattle.sv_threads.specs.Endings.{ending_of_fault}
use Rattle.sv_threads.specs.Playing.{PlayCause}

-- The run would have left an `A`. The net stands for whatever it is linked by.
pub fault_raises : (A : Type 0) (f0 f1 c0 c1 n0 n1 k : ℕ) (fault : PlayFault) → f1 ≡ f0 → PlayCause {A = A} c0 c1 n0 n1 (Err fault)
    → Raises (counts f0 c0 n0 k) (counts f1 c1 n1 k) (ending_of_fault fault)
fault_raises A f0 f1 c0 c1 n0 n1 k faults.Start f p = (p.0, same_counts f0 f1 c1 c1 n0 n1 k f refl p.1)
fault_raises A f0 f1 c0 c1 n0 n1 k faults.Link f p = (p.1, same_counts f0 f1 c0 c1 n1 n1 k f p.0 refl)
fault_raises A f0 f1 c0 c1 n0 n1 k faults.Memory f p = same_counts f0 f1 c0 c1 n0 n1 k f p.0 p.1
