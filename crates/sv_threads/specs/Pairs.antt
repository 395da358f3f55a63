-- What a run leaves of the pairs of a net.
use Rattle.std.specs.Prelude.{◌≡◌, ℕ, ◌+◌, ◌<◌, ◌≤◌, List, ◌++◌, length, Result, Ok, Err}
use Rattle.std.specs.List.{AllByRecursion}
use Rattle.sv_link.specs.Nets.{Transcript, BothEnds, BothArrived, AreTwoEnds}
use Rattle.sv_threads.specs.declared.outcome.PlayFault.{PlayFault}
use Rattle.sv_threads.specs.declared.outcome.PlayFault.TheVariants as faults

-- What a net tells of its pairs: the transcripts of those that matched, those that did not, how many were made, and how many of these are
-- not settled.
pub record Pairing : Type 0 where
  pub settled : List Transcript
  pub unmatched : List BothEnds
  pub made : ℕ
  pub owed : ℕ

abbrev pub pairing : List Transcript → List BothEnds → ℕ → ℕ → Pairing
pairing settled unmatched made owed = record { settled = settled; unmatched = unmatched; made = made; owed = owed }

-- Each pair that was made was settled: either it matched and its transcript is kept, or it is listed as one that did not match.
pub record SettledAll (old new : Pairing) : Type 0 where
  pub transcripts : List Transcript
  pub others : List BothEnds
  pub settled : new.settled ≡ old.settled ++ transcripts
  pub unmatched : new.unmatched ≡ old.unmatched ++ others
  pub made : new.made ≡ old.made + (length transcripts + length others)
  pub owed : new.owed ≡ old.owed

-- Each pair that was made was settled, and matched.
pub record MatchedAll (old new : Pairing) : Type 0 where
  pub all : SettledAll old new
  pub matched : new.unmatched ≡ old.unmatched

-- None was settled: threads that could not be started took the ends along.
pub record OwesAll (old new : Pairing) : Type 0 where
  pub pairs : ℕ
  pub settled : new.settled ≡ old.settled
  pub unmatched : new.unmatched ≡ old.unmatched
  pub made : new.made ≡ old.made + pairs
  pub owed : new.owed ≡ old.owed + pairs

-- What became of the pairs of a run, at each answer.
abbrev pub LeavesPairs : {A : Type 0} → Pairing → Pairing → Result A PlayFault → Type 0
LeavesPairs old new (Ok _) = MatchedAll old new
LeavesPairs old new (Err faults.Start) = OwesAll old new
LeavesPairs old new (Err faults.Link) = SettledAll old new
LeavesPairs old new (Err faults.Memory) = MatchedAll old new

-- A pair that was made since so many, of whose ends one did not receive what the other sent.
pub record HasDiffered (since made : ℕ) (ends : BothEnds) : Type 0 where
  pub pair : AreTwoEnds made ends.server ends.client
  pub late : since ≤ ends.server.pair
  pub differ : BothArrived ends.server ends.client → ⊥

-- The net told pairs as not matched, and in each of them bytes differed.
pub record SomeDiffered (old new : Pairing) : Type 0 where
  pub others : List BothEnds
  pub unmatched : new.unmatched ≡ old.unmatched ++ others
  pub some : 0 < length others
  pub each : AllByRecursion (HasDiffered old.made new.made) others
