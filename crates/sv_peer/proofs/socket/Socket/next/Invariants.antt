-- What stays true while frames are passed over.
use Rattle.sv_peer.specs.Sockets.{GainsControls}
use Rattle.sv_peer.proofs.socket.Socket.next.Given as goal

abbrev pub invariant-frames : goal.invariant-frames
invariant-frames l = GainsControls l.fn.output.items l.output.items
