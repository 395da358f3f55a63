-- Frames, and what a stream of bytes begins with.
use Rattle.std.specs.Prelude.{ℕ, ◌+◌, ◌≤◌, Bool, ◌&&◌, nat_lt, nat_le, if◌then◌else◌, List, ◌++◌, length, take, drop, Option, None, Some}
use Rattle.std.specs.List.{flat_map}
use Rattle.byteorder.specs.Endian.{big_bytes, big_number}

-- How long a payload may be, in bytes, and a frame. `src/limits.rt` has the same numbers for code.
abbrev pub greatest_payload : ℕ
greatest_payload = 65536

abbrev pub greatest_frame : ℕ
greatest_frame = 65540

-- a frame: the payload's length in four bytes, the highest first, and then the payload
unfoldable pub frame : List ℕ → List ℕ
frame payload = big_bytes 4 (length payload) ++ payload

-- the frames of payloads, one after the other
abbrev pub frames_of : List (List ℕ) → List ℕ
frames_of payloads = flat_map frame payloads

-- a payload that a frame may have
abbrev pub FitsFrame : List ℕ → Type 0
FitsFrame payload = length payload ≤ greatest_payload

-- the length in a stream's first four bytes
unfoldable pub stated_length : List ℕ → ℕ
stated_length stream = big_number 4 stream

-- whether a stream begins with a whole frame: a length within the limit, and that many bytes after it
abbrev pub has_frame : List ℕ → Bool
has_frame stream = nat_le (stated_length stream) greatest_payload && nat_le (4 + stated_length stream) (length stream)

-- the payload of the frame that a stream begins with, and what comes after the frame
unfoldable pub first_frame : List ℕ → Option (List ℕ × List ℕ)
first_frame stream =
    if has_frame stream
    then Some (take (stated_length stream) (drop 4 stream), drop (4 + stated_length stream) stream)
    else None

-- whether a stream begins with a length that has come whole and is over the limit
abbrev pub has_long_length : List ℕ → Bool
has_long_length stream = nat_le 4 (length stream) && nat_lt greatest_payload (stated_length stream)

-- that length
unfoldable pub too_long : List ℕ → Option ℕ
too_long stream = if has_long_length stream then Some (stated_length stream) else None
