-- What connections tell of themselves, and what a call changes of it.
use Rattle.std.specs.Prelude.{◌≡◌, ℕ, ◌+◌, ◌<◌, ◌≤◌, ◌==◌, Bool, true, false, List, [], ◌∷◌, ◌++◌, length, take, if◌then◌else◌}
use Rattle.sv_ports.specs.declared.ports.Accepted.{Accepted}
use Rattle.sv_ports.specs.declared.ports.Accepted.TheVariants as accepts
use Rattle.sv_ports.specs.declared.ports.PortRead.{PortRead}
use Rattle.sv_ports.specs.declared.ports.PortRead.TheVariants as reads
use Rattle.sv_ports.specs.declared.ports.PortWrote.{PortWrote}
use Rattle.sv_ports.specs.declared.ports.PortWrote.TheVariants as writes

-- All connections' numbers are below `next`. Each piece of bytes that was written to one, or heard from one, stands under its number, in order.
pub record Traffic : Type 0 where
  pub next : ℕ
  pub written : List (ℕ × List ℕ)
  pub heard : List (ℕ × List ℕ)
  pub input : List ℕ
  pub input_ended : Bool

-- No call was made.
abbrev pub nothing_told : Traffic
nothing_told = record { next = 0; written = []; heard = []; input = []; input_ended = false }

-- The bytes of one connection among such pieces.
abbrev pub bytes_of : ℕ → List (ℕ × List ℕ) → List ℕ
bytes_of number [] = []
bytes_of number (piece ∷ pieces) = if number == piece.0 then piece.1 ++ bytes_of number pieces else bytes_of number pieces

-- A connection's number was never given before.
abbrev pub Accepts : Traffic → Accepted → Traffic → Type 0
Accepts old (accepts.One number) new = (old.next ≤ number) × (new ≡ record old { next = number + 1 })
Accepts old accepts.NotYet new = new ≡ old
Accepts old accepts.Failed new = new ≡ old

-- The next bytes of a connection stand at the front of the buffer; or nothing came.
abbrev pub PortReads : Traffic → ℕ → List ℕ → PortRead → Traffic → Type 0
PortReads old number into (reads.Got n) new = (0 < n) × (n ≤ length into) × (new ≡ record old { heard = old.heard ++ (number, take n into) ∷ [] })
PortReads old number into reads.NotYet new = new ≡ old
PortReads old number into reads.Ended new = new ≡ old
PortReads old number into reads.Failed new = new ≡ old

-- A connection took the front of the piece, and no more; or it took nothing.
abbrev pub Writes : Traffic → ℕ → List ℕ → PortWrote → Traffic → Type 0
Writes old number piece (writes.Took n) new = (0 < n) × (n ≤ length piece) × (new ≡ record old { written = old.written ++ (number, take n piece) ∷ [] })
Writes old number piece writes.NotYet new = new ≡ old
Writes old number piece writes.Failed new = new ≡ old

-- The next bytes of the input stand at the front of the buffer; or it ended; or nothing came.
abbrev pub ReadsInput : Traffic → List ℕ → PortRead → Traffic → Type 0
ReadsInput old into (reads.Got n) new = (0 < n) × (n ≤ length into) × (new ≡ record old { input = old.input ++ take n into })
ReadsInput old into reads.NotYet new = new ≡ old
ReadsInput old into reads.Ended new = new ≡ record old { input_ended = true }
ReadsInput old into reads.Failed new = new ≡ old

-- Some bytes came, and no more than there was room for; or none did.
abbrev pub PortReadsSome : ℕ → PortRead → Type 0
PortReadsSome room (reads.Got n) = (0 < n) × (n ≤ room)
PortReadsSome room _ = Unit {0}

-- Some bytes were taken, and no more than there are; or none were.
abbrev pub WritesSome : ℕ → PortWrote → Type 0
WritesSome size (writes.Took n) = (0 < n) × (n ≤ size)
WritesSome size _ = Unit {0}
