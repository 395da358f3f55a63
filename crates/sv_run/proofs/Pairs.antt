-- What became of the pairs of the net, by how the call ends.
use Rattle.std.proofs.Common.{◌≡◌, ℕ, inl, inr, refl, sym, subst}
use Rattle.std.specs.Prelude.{Err}
use Rattle.sv_ending.specs.Statuses.{status_of}
use Rattle.sv_threads.specs.declared.outcome.PlayFault.{PlayFault}
use Rattle.sv_threads.specs.declared.outcome.PlayFault.TheVariants as faults
use Rattle.sv_threads.specs.Endings.{ending_of_fault}
use Rattle.sv_threads.specs.Pairs.{Pairing, MatchedAll, LeavesPairs}
use Rattle.sv_threads.proofs.Unused.{none_made}
use Rattle.sv_run.specs.Statuses.{SettlesPairs}

pub untouched_pairs : (status : ℕ) (old new : Pairing) → new ≡ old → SettlesPairs status old new
untouched_pairs status old new same = inl (subst (MatchedAll old) (sym same) (none_made old))

pub matched_pairs : (status : ℕ) (old new : Pairing) → MatchedAll old new → SettlesPairs status old new
matched_pairs status old new h = inl h

pub fault_pairs : (A : Type 0) (fault : PlayFault) (old new : Pairing) → LeavesPairs {A = A} old new (Err fault) → SettlesPairs (status_of (ending_of_fault fault)) old new
fault_pairs A faults.Start old new h = inr (inr (refl, h))
fault_pairs A faults.Link old new h = inr (inl (refl, h))
fault_pairs A faults.Memory old new h = inl h
