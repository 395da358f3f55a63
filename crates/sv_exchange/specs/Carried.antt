-- Messages that a stream carries.
use Rattle.std.specs.Prelude.{◌≡◌, ℕ, List, [], ◌∷◌, map, Option, None, Some, Result, Ok, Err}
use Rattle.std.specs.List.{AllByRecursion}
use Rattle.sv_frame.specs.Frames.{frames_of}
use Rattle.sv_frame.specs.Streams.{split_frames}
use Rattle.sv_link.specs.Sides.{SideView}
use Rattle.sv_exchange.specs.Streams.{not_taken, IsWithin}

-- a message that was read before others
abbrev pub message_before : {M E : Type 0} → Result M E → List M → List M
message_before (Ok m) ms = m ∷ ms
message_before (Err e) ms = ms

-- the messages that payloads are read as
abbrev pub messages_of : {M E : Type 0} → (List ℕ → Result M E) → List (List ℕ) → List M
messages_of read [] = []
messages_of read (p ∷ ps) = message_before (read p) (messages_of read ps)

-- the messages that a stream begins with
abbrev pub messages_in : {M E : Type 0} → (List ℕ → Result M E) → List ℕ → List M
messages_in read stream = messages_of read (split_frames stream).0

-- the stream is the frames of these messages, one after the other, and no more
pub record IsStreamOf {M : Type 0} (IsMessage : M → Type 0) (spell : M → List ℕ) (messages : List M) (stream : List ℕ) : Type 0 where
  pub whole : stream ≡ frames_of (map spell messages)
  pub each : AllByRecursion IsMessage messages

-- the messages of a sender that wait for its other side, which has this inbox
unfoldable pub waiting : {M E : Type 0} → (List ℕ → Result M E) → List ℕ → SideView → List M
waiting read inbox sender = messages_in read (not_taken inbox sender)

-- one way of a connection: what the receiver has not taken is the frames of the messages that wait
pub record IsLane {M E : Type 0} (IsMessage : M → Type 0) (spell : M → List ℕ) (read : List ℕ → Result M E) (inbox : List ℕ) (sender : SideView) : Type 0 where
  pub carries : IsStreamOf IsMessage spell (waiting read inbox sender) (not_taken inbox sender)
  pub within : IsWithin sender

-- none waited; or the first that waited was taken
abbrev pub TakesFirst : {M : Type 0} → Option M → List M → List M → Type 0
TakesFirst None old new = (old ≡ []) × (new ≡ old)
TakesFirst (Some m) old new = old ≡ m ∷ new
