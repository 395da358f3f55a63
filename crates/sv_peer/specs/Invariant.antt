-- What a connection keeps.
use Rattle.std.specs.Prelude.{◌≡◌, ℕ, List, [], ◌++◌}
use Rattle.sv_peer.specs.declared.manner.Manner.{Manner}
use Rattle.sv_peer.specs.declared.manner.Manner.TheVariants as manner
use Rattle.sv_peer.specs.declared.peer.Voice.{Voice}
use Rattle.sv_peer.specs.declared.peer.Voice.TheVariants as voice
use Rattle.sv_peer.specs.declared.peer.Peer.TheInside.{Inside}
use Rattle.sv_peer.specs.View.{PeerView, IsInStep}
use Rattle.sv_peer.specs.Webs.{handed_by}

abbrev pub manner_of : Voice → Manner
manner_of voice.Unknown = manner.Unknown
manner_of (voice.Plain reader) = manner.Frames
manner_of (voice.Web web) = manner.Http
manner_of (voice.Socket socket) = manner.Socket
manner_of voice.Closed = manner.Closed

-- what came as frames and was not taken
abbrev pub heard_by : Voice → List ℕ
heard_by voice.Unknown = []
heard_by (voice.Plain reader) = reader
heard_by (voice.Web web) = []
heard_by (voice.Socket socket) = []
heard_by voice.Closed = []

abbrev pub view_of : Inside → PeerView
view_of peer = record {
  told = peer.told;
  sent = peer.sent;
  output = peer.output.items;
  manner = manner_of peer.voice;
  heard = heard_by peer.voice;
  shown = peer.shown;
}

-- what an HTTP connection sent is what its server handed out
abbrev pub IsHandedOut : Voice → List ℕ → Type 0
IsHandedOut voice.Unknown bytes = Unit {0}
IsHandedOut (voice.Plain reader) bytes = Unit {0}
IsHandedOut (voice.Web web) bytes = bytes ≡ handed_by web.value
IsHandedOut (voice.Socket socket) bytes = Unit {0}
IsHandedOut voice.Closed bytes = Unit {0}

pub record IsPeer (peer : Inside) : Type 0 where
  pub says : IsInStep (view_of peer)
  pub handed : IsHandedOut peer.voice (peer.sent ++ peer.output.items)

-- nothing was handed out yet
abbrev pub HandsNothing : Voice → Type 0
HandsNothing begun = IsHandedOut begun []
