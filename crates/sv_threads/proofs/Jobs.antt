-- How often the jobs of a run ran, where it has no record.
use Rattle.std.proofs.Common.{◌≡◌, ℕ, List, ◌++◌, ◌∷◌, [], inl, inr, refl, sym, subst}
use Rattle.std.specs.Prelude.{Result, Ok, Err, IsErrAnd}
use Rattle.sv_threads.specs.declared.outcome.PlayFault.{PlayFault}
use Rattle.sv_threads.specs.declared.outcome.PlayFault.TheVariants as faults
use Rattle.sv_threads.specs.Playing.{RunsOnce}

pub none_ran : (A : Type 0) (fault : PlayFault) (jobs : ℕ) (before now : List ℕ) → now ≡ before → RunsOnce {A = A} jobs before now (Err fault)
none_ran A faults.Start jobs before now same = same
none_ran A faults.Link jobs before now same = inl same
none_ran A faults.Memory jobs before now same = inl same

pub fault_none_ran : (A : Type 0) (P : PlayFault → Type 0) (r : Result A PlayFault) (jobs : ℕ) (ran : List ℕ) → IsErrAnd r P → RunsOnce {A = A} jobs ran ran r
fault_none_ran A P (Ok a) jobs ran e = absurd e
fault_none_ran A P (Err fault) jobs ran e = none_ran A fault jobs ran ran refl

pub memory_all_ran : (A : Type 0) (r : Result A PlayFault) (jobs : ℕ) (before now : List ℕ) → IsErrAnd r (λ f. f ≡ faults.Memory) → now ≡ before ++ jobs ∷ [] → RunsOnce {A = A} jobs before now r
memory_all_ran A (Ok a) jobs before now e ran = absurd e
memory_all_ran A (Err fault) jobs before now e ran = subst (λ f. RunsOnce {A = A} jobs before now (Err f)) (sym e) (inr ran)
