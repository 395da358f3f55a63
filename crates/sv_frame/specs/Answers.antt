-- What a reader's `next` answers, and what it leaves.
use Rattle.std.specs.Prelude.{◌≡◌, ℕ, ◌+◌, ◌≤◌, ◌<◌, true, List, [], ◌++◌, length, take, drop, None, Some, option_map, IfSome, ⊤}
use Rattle.std.specs.Borrow.{follows_so, MutBor, Fml}
use mathlib.Core.Option.{none}
use Rattle.sv_frame.specs.Frames.{greatest_frame, frame, first_frame, too_long}
use Rattle.sv_frame.specs.Streams.{TakesOff, split_frames}
use Rattle.sv_frame.specs.declared.reader.Front.{Front}
use Rattle.sv_frame.specs.declared.reader.Front.TheVariants.{Whole, Partial, Oversize}
use Rattle.sv_frame.specs.declared.reader.NextFrame.{NextFrame}
use Rattle.sv_frame.specs.declared.reader.NextFrame.TheVariants.{Frame, NotYet, TooLong}
use Rattle.sv_frame.specs.contracts.reader.FrameReader.{the_row}
use Rattle.sv_link.specs.Ends.{Told, receiving}
use Rattle.sv_link.specs.declared.ends.EndRead.{EndRead}
use Rattle.sv_link.specs.declared.ends.EndRead.TheVariants as read

-- the first payload of the rest; or there is neither a whole frame nor a length over the limit; or that length
abbrev pub IsAnswer : NextFrame → List ℕ → Type 0
IsAnswer (Frame payload) rest = option_map (λ first. first.0) (first_frame rest) ≡ Some payload.now
IsAnswer NotYet rest = (first_frame rest ≡ None) × (too_long rest ≡ None)
IsAnswer (TooLong n) rest = too_long rest ≡ Some n

-- a rest with no whole frame leaves room for another byte
abbrev pub LeavesRoom : NextFrame → List ℕ → Type 0
LeavesRoom (Frame payload) rest = Unit {0}
LeavesRoom NotYet rest = length rest < greatest_frame
LeavesRoom (TooLong n) rest = Unit {0}

-- A frame is taken off. Any other answer takes nothing off, and there was no payload to split off
abbrev pub IsRestAfter : NextFrame → List ℕ → List ℕ → Type 0
IsRestAfter (Frame payload) old new = TakesOff payload.now old new
IsRestAfter NotYet old new = (new ≡ old) × (split_frames old ≡ ([], old))
IsRestAfter (TooLong n) old new = (new ≡ old) × (split_frames old ≡ ([], old))

-- what the reader is once the answer is gone
abbrev pub LeavesRest : MutBor (List ℕ) → NextFrame → Fml
LeavesRest reader answer =
    follows_so the_row the_row reader.ghost_name none (λ _ _. ⊤) (λ new. IsRestAfter answer reader.now new)

-- what a rest begins with, the length of a whole frame's payload among it
abbrev pub BeginsRest : Front → List ℕ → Type 0
BeginsRest (Whole n) rest = (4 + n ≤ length rest) × (first_frame rest ≡ Some (take n (drop 4 rest), drop (4 + n) rest)) × (rest ≡ frame (take n (drop 4 rest)) ++ drop (4 + n) rest)
BeginsRest Partial rest = (first_frame rest ≡ None) × (too_long rest ≡ None)
BeginsRest (Oversize n) rest = too_long rest ≡ Some n

-- the first frame of a rest is taken off
abbrev pub Skips : List ℕ → List ℕ → Type 0
Skips old new = IfSome (first_frame old) (λ first. TakesOff first.0 old new)

-- so many bytes came: the end received them, and they stand behind what the reader had
pub record Came (old : Told) (before : List ℕ) (count : ℕ) (new : Told) (after : List ℕ) : Type 0 where
  pub bytes : List ℕ
  pub size : length bytes ≡ count
  pub some : 0 < count
  pub told : new ≡ receiving old bytes
  pub rest : after ≡ before ++ bytes

-- a reader read from an end: bytes came; or the end told that no more will come; or nothing changed
abbrev pub ReadsInto : Told → List ℕ → EndRead → Told → List ℕ → Type 0
ReadsInto old before (read.Got n) new after = Came old before n new after
ReadsInto old before read.Ended new after = (new ≡ record old { ended = true }) × (after ≡ before)
ReadsInto old before read.Failed new after = (new ≡ old) × (after ≡ before)
ReadsInto old before read.Memory new after = (new ≡ old) × (after ≡ before)
