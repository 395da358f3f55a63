-- The front part of a stream of frames.
use Rattle.std.specs.Prelude.{◌≡◌, ℕ, None, List, ◌++◌}
use Rattle.std.specs.List.{AllByRecursion}
use mathlib.Core.List.{IsPrefix}
use Rattle.sv_frame.specs.Frames.{frames_of, FitsFrame, too_long}
use Rattle.sv_frame.specs.Streams.{split_frames}

-- The stream is the frames of the first of these payloads, and a rest that is less than a frame.
pub record IsCutStream (payloads : List (List ℕ)) (stream : List ℕ) : Type 0 where
  pub taken : List (List ℕ)
  pub left : List (List ℕ)
  pub are : payloads ≡ taken ++ left
  pub rest : List ℕ
  pub whole : stream ≡ frames_of taken ++ rest
  pub split : split_frames stream ≡ (taken, rest)
  pub none : too_long rest ≡ None

abbrev pub CutFramesAreFrontFrames : Type 0
CutFramesAreFrontFrames = (payloads : List (List ℕ)) (stream : List ℕ) → AllByRecursion FitsFrame payloads → IsPrefix stream (frames_of payloads) → IsCutStream payloads stream
