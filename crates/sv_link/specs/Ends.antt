-- What an end of a connection tells, and what its calls change of it.
use Rattle.std.specs.Prelude.{◌≡◌, ◌≢◌, ℕ, ◌<◌, ◌≤◌, Bool, true, false, List, [], ◌++◌, length, take}
use Rattle.sv_bytes.specs.Faults.{Rose}
use Rattle.sv_link.specs.declared.side.Side.{Side}
use Rattle.sv_link.specs.declared.ends.EndRead.{EndRead}
use Rattle.sv_link.specs.declared.ends.EndRead.TheVariants as read
use Rattle.sv_link.specs.declared.ends.EndWrote.{EndWrote}
use Rattle.sv_link.specs.declared.ends.EndWrote.TheVariants as wrote
use Rattle.sv_link.specs.declared.ends.Sent.{Sent}
use Rattle.sv_link.specs.declared.ends.Sent.TheVariants as sent

-- What an end tells of itself: the bytes that its own calls moved, whether a read answered Ended, whether it is closed, the number of
-- its pair, and its side.
pub record Told : Type 0 where
  pub sent : List ℕ
  pub received : List ℕ
  pub ended : Bool
  pub closed : Bool
  pub pair : ℕ
  pub side : Side

-- a new end of a pair: nothing was sent or received, nothing ended, and it is open
abbrev pub new_end : ℕ → Side → Told
new_end pair side = record { sent = []; received = []; ended = false; closed = false; pair = pair; side = side }

-- an end that sent these bytes more
abbrev pub sending : Told → List ℕ → Told
sending end bytes = record end { sent = end.sent ++ bytes }

-- an end that received these bytes more
abbrev pub receiving : Told → List ℕ → Told
receiving end bytes = record end { received = end.received ++ bytes }

-- a read gave the next bytes, at the front of `into`; or told that no more will come; or did nothing
abbrev pub EndReads : Told → List ℕ → EndRead → Told → Type 0
EndReads old into (read.Got n) new = (0 < n) × (n ≤ length into) × (new ≡ receiving old (take n into))
EndReads old into read.Ended new = new ≡ record old { ended = true }
EndReads old into read.Failed new = new ≡ old
EndReads old into read.Memory new = new ≡ old

-- a write took the front of the piece, or did nothing
abbrev pub EndWrites : Told → List ℕ → EndWrote → Told → Type 0
EndWrites old piece (wrote.Took n) new = (0 < n) × (n ≤ length piece) × (new ≡ sending old (take n piece))
EndWrites old piece wrote.Failed new = new ≡ old
EndWrites old piece wrote.Memory new = new ≡ old

-- an end's count of faults rises just where a call answers that it failed
abbrev pub EndReadCause : ℕ → ℕ → EndRead → Type 0
EndReadCause before now read.Failed = Rose before now
EndReadCause before now _ = now ≡ before

abbrev pub EndWriteCause : ℕ → ℕ → EndWrote → Type 0
EndWriteCause before now wrote.Failed = Rose before now
EndWriteCause before now _ = now ≡ before

abbrev pub SentCause : ℕ → ℕ → Sent → Type 0
SentCause before now sent.Failed = Rose before now
SentCause before now _ = now ≡ before

-- the front of these bytes was sent: all of them just where the answer is Whole
pub record Sends (old : Told) (bytes : List ℕ) (answer : Sent) (new : Told) : Type 0 where
  pub size : ℕ
  pub within : size ≤ length bytes
  pub grew : new ≡ sending old (take size bytes)
  pub whole : answer ≡ sent.Whole → size ≡ length bytes
  pub part : answer ≢ sent.Whole → size < length bytes
