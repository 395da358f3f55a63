-- The bytes between a client and its session.
use Rattle.std.specs.Prelude.{◌≡◌, ℕ, ◌≤◌, ◌⊎◌, List, [], ◌++◌, length}
use Rattle.sv_frame.specs.Frames.{greatest_frame}
use Rattle.sv_link.specs.declared.side.Side.{Side}
use Rattle.sv_link.specs.Sides.{SideView, LinkView, other, side_of, with_side, unread, after_write}

-- the bytes of a sender that its other side has not taken as messages: those that came, and those that are still to be read
abbrev pub not_taken : List ℕ → SideView → List ℕ
not_taken inbox sender = inbox ++ unread sender

-- no more was read of a side than it wrote
abbrev pub IsWithin : SideView → Type 0
IsWithin side = side.read ≤ length side.written

-- one side read on, and nothing else changed
pub record SideReadOn (old new : LinkView) (side : Side) : Type 0 where
  pub own : side_of new side ≡ side_of old side
  pub written : (side_of new (other side)).written ≡ (side_of old (other side)).written
  pub closed : (side_of new (other side)).closed ≡ (side_of old (other side)).closed
  pub within : IsWithin (side_of new (other side))

-- a reader has no more room, or nothing is left to read
abbrev pub IsFilled : List ℕ → List ℕ → Type 0
IsFilled reader left = (greatest_frame ≤ length reader) ⊎ (left ≡ [])

-- what is to be read of a side is the same
pub record IsSameToRead (old new : SideView) : Type 0 where
  pub left : unread new ≡ unread old
  pub closed : new.closed ≡ old.closed
  pub within : IsWithin old → IsWithin new

-- what is to be read of each side is the same
pub record IsSameLink (old new : LinkView) : Type 0 where
  pub server : IsSameToRead old.server new.server
  pub client : IsSameToRead old.client new.client

-- a side wrote a piece to a link that had the same to read
pub record Wrote (old new : LinkView) (side : Side) (piece : List ℕ) : Type 0 where
  pub link : LinkView
  pub same : IsSameLink old link
  pub written : new ≡ with_side link side (after_write (side_of link side) piece)
