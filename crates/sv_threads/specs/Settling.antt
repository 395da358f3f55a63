-- Settling all pairs of a run.
use Rattle.std.specs.Prelude.{◌≡◌, ◌⊎◌, ℕ, ◌+◌, ◌<◌, ◌≤◌, Bool, true, false, List, [], ◌∷◌, ◌++◌, length}
use Rattle.std.specs.List.{AllByRecursion, AllZip}
use Rattle.sv_bytes.specs.Faults.{Rose}
use Rattle.sv_link.specs.Ends.{Told}
use Rattle.sv_link.specs.Nets.{Transcript, BothEnds, BothArrived, AreTwoEnds}
use Rattle.sv_threads.specs.declared.gathering.ClientEnd.{ClientEnd}
use Rattle.sv_threads.specs.Pairs.{Pairing, HasDiffered}

-- a net's count of faults rises just where not all pairs matched
abbrev pub SettledCause : ℕ → ℕ → Bool → Type 0
SettledCause before now true = now ≡ before
SettledCause before now false = Rose before now

-- it holds of some two that stand at one place
abbrev pub AnyZip : {A B : Type 0} → (A → B → Type 0) → List A → List B → Type 0
AnyZip R [] ys = ⊥
AnyZip R (x ∷ xs) [] = ⊥
AnyZip R (x ∷ xs) (y ∷ ys) = R x y ⊎ AnyZip R xs ys

module _ {E : Type 0} (told : E → Told) where
  -- What one of the two ends received is not what the other sent, as far as it went; or it is not all of it, where no more was to come.
  abbrev pub Differ : E → ClientEnd E → Type 0
  Differ server z = BothArrived (told server) (told z.end) → ⊥

module _ {E : Type 0} (told : E → Told) where
  -- the two ends of a pair of a net that made so many
  abbrev pub ArePair : ℕ → E → ClientEnd E → Type 0
  ArePair made server z = AreTwoEnds made (told server) (told z.end)

module _ {E : Type 0} (calm : E → Type 0) where
  abbrev pub AreCalm : E → ClientEnd E → Type 0
  AreCalm server z = calm server × calm z.end

module _ {E : Type 0} (told : E → Told) where
  -- the pair was made after the first so many
  abbrev pub IsSince : ℕ → E → ClientEnd E → Type 0
  IsSince since server z = since ≤ (told server).pair

module _ {E : Type 0} (told : E → Told) (calm : E → Type 0) where
  -- A net settled a pair for each two ends: one that matched has its transcript kept, and the others are listed. In a calm net bytes differ
  -- in each of these.
  pub record SettledEach (net_calm : Type 0) (servers : List E) (clients : List (ClientEnd E)) (all_matched : Bool) (old new : Pairing) : Type 0 where
    pub transcripts : List Transcript
    pub others : List BothEnds
    pub settled : new.settled ≡ old.settled ++ transcripts
    pub unmatched : new.unmatched ≡ old.unmatched ++ others
    pub count : length transcripts + length others ≡ length servers
    pub made : new.made ≡ old.made
    pub owed : old.owed ≡ new.owed + length servers
    pub matched : all_matched ≡ true → others ≡ []
    pub failed : all_matched ≡ false → 0 < length others
    pub each : net_calm → AllZip (AreCalm calm) servers clients → (since : ℕ) → AllZip (IsSince told since) servers clients → AllByRecursion (HasDiffered since old.made) others
