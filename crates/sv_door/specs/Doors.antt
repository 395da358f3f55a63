-- Ends that doors make, and what is kept of them.
use Rattle.std.specs.Prelude.{◌≡◌, ℕ, suc, Bool, nat_lt, List}
use Rattle.sv_bytes.specs.Faults.{Rose}
use Rattle.sv_link.specs.Ends.{Told, new_end}
use Rattle.sv_link.specs.declared.side.Side.{Side}
use Rattle.sv_door.specs.declared.doors.EndMade.{EndMade}
use Rattle.sv_door.specs.declared.doors.EndMade.TheVariants as made

-- What is kept of an end that was given back: its number, the bytes that it sent and received, whether a read of it answered Ended, and
-- whether it had a fault.
pub record Passage : Type 0 where
  pub number : ℕ
  pub sent : List ℕ
  pub received : List ℕ
  pub ended : Bool
  pub faulty : Bool

-- what is kept of an end with this count of faults
abbrev pub passage_of : Told → ℕ → Passage
passage_of end faults = record { number = end.pair; sent = end.sent; received = end.received; ended = end.ended; faulty = nat_lt 0 faults }

module _ {E : Type 0} (told : E → Told) (faults : E → ℕ) where
  -- a new end of this side, under the next number
  abbrev pub MakesEnd : Side → ℕ → ℕ → EndMade E → Type 0
  MakesEnd side before now (made.End end) = (now ≡ suc before) × (told end ≡ new_end before side) × (faults end ≡ 0)
  MakesEnd side before now made.Failed = now ≡ before
  MakesEnd side before now made.Memory = now ≡ before

module _ {E : Type 0} where
  -- an end that was made is owed until it is given back
  abbrev pub OwesEnd : ℕ → ℕ → EndMade E → Type 0
  OwesEnd before now (made.End end) = now ≡ suc before
  OwesEnd before now made.Failed = now ≡ before
  OwesEnd before now made.Memory = now ≡ before

  -- a door's count of faults rises just where an end could not be made
  abbrev pub MadeCause : ℕ → ℕ → EndMade E → Type 0
  MadeCause before now (made.End end) = now ≡ before
  MadeCause before now made.Failed = Rose before now
  MadeCause before now made.Memory = now ≡ before

-- a door that is sure of the port gives a calm end, or there is no memory
module _ {E : Type 0} (calm : E → Type 0) where
  abbrev pub IsCalmMade : EndMade E → Type 0
  IsCalmMade (made.End end) = calm end
  IsCalmMade made.Failed = ⊥
  IsCalmMade made.Memory = Unit {0}
