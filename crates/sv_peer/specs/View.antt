-- A connection as contracts see it.
use Rattle.std.specs.Prelude.{◌≡◌, ℕ, ◌-◌, ◌⊎◌, nat_le, ◌&&◌, ◌||◌, Bool, List, [], ◌∷◌, ◌++◌, length, take, drop, map, is_some, Option, None, Some, if◌then◌else◌}
use Rattle.sv_frame.specs.Frames.{greatest_frame, frame, frames_of, first_frame, too_long}
use Rattle.sv_wire.specs.declared.message.Request.TheVariants.{Bad}
use Rattle.sv_wire.specs.declared.message.Reply.{Reply}
use Rattle.sv_wire.specs.Spelling.{reply_bytes}
use Rattle.sv_peer.specs.declared.heard.Heard.{Heard}
use Rattle.sv_peer.specs.declared.heard.Heard.TheVariants as heard
use Rattle.sv_peer.specs.declared.manner.Manner.{Manner}
use Rattle.sv_peer.specs.declared.manner.Manner.TheVariants as manner
use Rattle.sv_peer.specs.Hellos.{heard_in}
use Rattle.sv_peer.specs.Https.{IsHttp}
use Rattle.sv_peer.specs.Sockets.{message_frame, IsSocketStream}

-- The replies that were told; the bytes that were handed over, and those that wait; how it is spoken; what came as frames and was not taken;
-- and the digest of the key that an upgrade showed, until it is told.
pub record PeerView : Type 0 where
  pub told : List Reply
  pub sent : List ℕ
  pub output : List ℕ
  pub manner : Manner
  pub heard : List ℕ
  pub shown : Option (List ℕ)

abbrev pub new_peer : PeerView
new_peer = record { told = []; sent = []; output = []; manner = manner.Unknown; heard = []; shown = None }

-- what all the bytes of a connection are: of frames, those of the replies that were told, in order; of a WebSocket, a message for each; and
-- otherwise they are those of HTTP, and no reply was told
abbrev pub Says : Manner → List Reply → List ℕ → Type 0
Says manner.Unknown told bytes = (told ≡ []) × (bytes ≡ [])
Says manner.Frames told bytes = bytes ≡ frames_of (map reply_bytes told)
Says manner.Http told bytes = (told ≡ []) × ∥ IsHttp bytes ∥₁
Says manner.Socket told bytes = IsSocketStream told bytes
Says manner.Closed told bytes = (told ≡ []) × ∥ IsHttp bytes ∥₁

-- what was sent and what waits is what the replies are told by
abbrev pub IsInStep : PeerView → Type 0
IsInStep peer = Says peer.manner peer.told (peer.sent ++ peer.output)

-- nothing more was told or sent, and what waits still does
pub record PeerKeeps (old new : PeerView) : Type 0 where
  pub told : new.told ≡ old.told
  pub sent : new.sent ≡ old.sent
  pub more : List ℕ
  pub output : new.output ≡ old.output ++ more

-- a payload is put behind what waits
abbrev pub Puts : Manner → List ℕ → List ℕ → List ℕ → Type 0
Puts manner.Unknown payload old new = ⊥
Puts manner.Frames payload old new = new ≡ old ++ frame payload
Puts manner.Http payload old new = ⊥
Puts manner.Socket payload old new = new ≡ old ++ message_frame payload
Puts manner.Closed payload old new = ⊥

-- a reply was told, and nothing else changed but that it waits
pub record PeerTells (old : PeerView) (reply : Reply) (new : PeerView) : Type 0 where
  pub puts : Puts old.manner (reply_bytes reply) old.output new.output
  pub rest : new ≡ record old { told = old.told ++ reply ∷ []; output = new.output }

-- so many bytes, or all that wait, were sent
abbrev pub after_sent : PeerView → ℕ → PeerView
after_sent peer count = record peer { sent = peer.sent ++ take count peer.output; output = drop count peer.output }

abbrev pub is_letter : ℕ → Bool
is_letter byte = (nat_le 65 byte && nat_le byte 90) || (nat_le 97 byte && nat_le byte 122)

-- how a connection is spoken whose first byte is this: HTTP, where it is a letter, and else frames
abbrev pub begun : ℕ → Manner
begun first = if is_letter first then manner.Http else manner.Frames

-- the way it is spoken after HTTP
abbrev pub IsAfterHttp : Manner → Type 0
IsAfterHttp after = (after ≡ manner.Http) ⊎ (after ≡ manner.Socket) ⊎ (after ≡ manner.Closed)

-- HTTP is over, and nothing else changed but that a key may have been shown
pub record Upgrades (old new : PeerView) : Type 0 where
  pub after : IsAfterHttp new.manner
  pub same : new ≡ record old { manner = new.manner; shown = new.shown }

-- HTTP was answered, and goes on, or is over, or became a WebSocket
pub record Answers (old new : PeerView) : Type 0 where
  pub after : IsAfterHttp new.manner
  pub more : List ℕ
  pub same : new ≡ record old { output = old.output ++ more; manner = new.manner; shown = new.shown }

-- bytes came, of which frames take as many as there is room for
abbrev pub TakesIn : Manner → PeerView → List ℕ → PeerView → Type 0
TakesIn manner.Unknown old piece new = new ≡ old
TakesIn manner.Frames old piece new = new ≡ record old { heard = old.heard ++ take (greatest_frame - length old.heard) piece }
TakesIn manner.Http old piece new = Answers old new
TakesIn manner.Socket old piece new = new ≡ old
TakesIn manner.Closed old piece new = new ≡ old

-- the first byte tells how it is spoken
abbrev pub HearsFirst : PeerView → List ℕ → PeerView → Type 0
HearsFirst old [] new = new ≡ old
HearsFirst old (first ∷ more) new = TakesIn (begun first) (record old { manner = begun first }) (first ∷ more) new

abbrev pub HearsBy : Manner → PeerView → List ℕ → PeerView → Type 0
HearsBy manner.Unknown old piece new = HearsFirst old piece new
HearsBy manner.Frames old piece new = TakesIn manner.Frames old piece new
HearsBy manner.Http old piece new = TakesIn manner.Http old piece new
HearsBy manner.Socket old piece new = TakesIn manner.Socket old piece new
HearsBy manner.Closed old piece new = TakesIn manner.Closed old piece new

abbrev pub Hears : PeerView → List ℕ → PeerView → Type 0
Hears old piece new = HearsBy old.manner old piece new

-- what the first frame is heard as: it is taken off, or there was no memory. A length over the limit is a request that is Bad, and stays
abbrev pub TakesFirstFrame : Option (List ℕ × List ℕ) → List ℕ → Heard → List ℕ → Type 0
TakesFirstFrame (Some first) old answer new = ((answer ≡ heard_in first.0) × (new ≡ first.1)) ⊎ ((answer ≡ heard.Memory) × (new ≡ old))
TakesFirstFrame None old answer new = (answer ≡ (if is_some (too_long old) then heard.Request Bad else heard.NotYet)) × (new ≡ old)

abbrev pub TakesFrame : List ℕ → Heard → List ℕ → Type 0
TakesFrame old answer new = TakesFirstFrame (first_frame old) old answer new

abbrev pub NextBy : Manner → PeerView → Heard → PeerView → Type 0
NextBy manner.Unknown old answer new = (answer ≡ heard.NotYet) × (new ≡ old)
NextBy manner.Frames old answer new = TakesFrame old.heard answer new.heard × (new ≡ record old { heard = new.heard })
NextBy manner.Http old answer new = (answer ≡ heard.NotYet) × (new ≡ old)
NextBy manner.Socket old answer new = new ≡ record old { output = new.output }
NextBy manner.Closed old answer new = (answer ≡ heard.Closed) × (new ≡ old)

-- what comes next: the key that an upgrade showed, and else what came
abbrev pub NextIs : Option (List ℕ) → PeerView → Heard → PeerView → Type 0
NextIs (Some digest) old answer new = (answer ≡ heard.Hello digest) × (new ≡ record old { shown = None })
NextIs None old answer new = NextBy old.manner old answer new

abbrev pub Nexts : PeerView → Heard → PeerView → Type 0
Nexts old answer new = NextIs old.shown old answer new
