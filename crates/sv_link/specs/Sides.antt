-- Both ends of a connection as contracts see them.
use Rattle.std.specs.Prelude.{ℕ, ◌+◌, Bool, true, false, List, [], ◌++◌, drop}
use Rattle.sv_link.specs.declared.side.Side.{Side}
use Rattle.sv_link.specs.declared.side.Side.TheVariants.{Server, Client}

-- one side: the bytes that it wrote, how many of these the other side has read, and whether it is closed
pub record SideView : Type 0 where
  pub written : List ℕ
  pub read : ℕ
  pub closed : Bool

-- both sides
pub record LinkView : Type 0 where
  pub server : SideView
  pub client : SideView

-- a side that wrote nothing and is open
abbrev pub new_side : SideView
new_side = record { written = []; read = 0; closed = false }

-- what the other side has not read
abbrev pub unread : SideView → List ℕ
unread side = drop side.read side.written

-- after the side wrote a piece
abbrev pub after_write : SideView → List ℕ → SideView
after_write side piece = record { written = side.written ++ piece; read = side.read; closed = side.closed }

-- after the other side read so many bytes more
abbrev pub after_read : SideView → ℕ → SideView
after_read side count = record { written = side.written; read = side.read + count; closed = side.closed }

-- after the side was closed
abbrev pub after_close : SideView → SideView
after_close side = record { written = side.written; read = side.read; closed = true }

-- the side across
abbrev pub other : Side → Side
other Server = Client
other Client = Server

-- a side of a connection
abbrev pub side_of : LinkView → Side → SideView
side_of link Server = link.server
side_of link Client = link.client

-- a connection with this side in place of one
abbrev pub with_side : LinkView → Side → SideView → LinkView
with_side link Server side = record { server = side; client = link.client }
with_side link Client side = record { server = link.server; client = side }
