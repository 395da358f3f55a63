-- The payloads of a stream, however many there are.
use Rattle.std.specs.Prelude.{◌≡◌, ℕ, zero, suc, ◌+◌, ◌<◌, List, [], ◌∷◌, ◌++◌, length, map, slice_index, Option, None, Some}
use Rattle.std.specs.List.{AllByRecursion}
use Rattle.sv_frame.specs.Frames.{frame, frames_of, FitsFrame, first_frame, too_long}

-- a payload before those of a split
abbrev pub with_first : List ℕ → List (List ℕ) × List ℕ → List (List ℕ) × List ℕ
with_first payload split = (payload ∷ split.0, split.1)

-- the payloads of at most `count` frames that a stream begins with, and what comes after these frames
abbrev pub split_at_most : ℕ → List ℕ → List (List ℕ) × List ℕ
split_at_most zero stream = ([], stream)
split_at_most (suc count) stream =
    elim (first_frame stream) [
      | None ↦ ([], stream)
      | Some first ↦ with_first first.0 (split_at_most count first.1)
    ]

-- the whole payloads that a stream begins with, and the rest. A stream has no more frames than bytes
unfoldable pub split_frames : List ℕ → List (List ℕ) × List ℕ
split_frames stream = split_at_most (length stream) stream

-- the frame of this payload is taken off the front of a stream
pub record TakesOff (payload old new : List ℕ) : Type 0 where
  pub first : first_frame old ≡ Some (payload, new)
  pub whole : old ≡ frame payload ++ new
  pub sizes : length old ≡ 4 + length payload + length new
  pub split : split_frames old ≡ with_first payload (split_frames new)

-- a split of what has come so far, and then of its rest with more bytes after it
abbrev pub split_on : List (List ℕ) × List ℕ → List ℕ → List (List ℕ) × List ℕ
split_on so_far more = let next = split_frames (so_far.1 ++ more) in (so_far.0 ++ next.0, next.1)

-- each is a byte. Past the end `slice_index` is 0
abbrev pub AreBytes : List ℕ → Type 0
AreBytes stream = (i : ℕ) → slice_index stream i < 256

-- the stream is the frames of these payloads, and then a rest that begins with no frame
pub record Splits (stream : List ℕ) (payloads : List (List ℕ)) (rest : List ℕ) : Type 0 where
  pub whole : stream ≡ frames_of payloads ++ rest
  pub each : AllByRecursion FitsFrame payloads
  pub no_more : (payload after : List ℕ) → FitsFrame payload → rest ≡ frame payload ++ after → ⊥

-- what a reader of a stream meets: payloads, and at the end maybe a length that is over the limit
pub data StreamItem : Type 0 where
  Payload : List ℕ → StreamItem
  TooLong : ℕ → StreamItem

-- the item of a length over the limit, if there is one
abbrev pub too_long_item : Option ℕ → List StreamItem
too_long_item None = []
too_long_item (Some n) = TooLong n ∷ []

-- the items of a stream: its payloads, and a length over the limit that comes after them
unfoldable pub incoming_items : List ℕ → List StreamItem
incoming_items stream = let split = split_frames stream in map Payload split.0 ++ too_long_item (too_long split.1)
