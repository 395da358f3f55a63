-- What is proved by hand of `Peer::next`.
use Rattle.std.proofs.Common.{◌++◌, refl}
use Rattle.sv_peer.proofs.Steps.{says_socket, socket_controls, keeps_controls}
use Rattle.sv_peer.proofs.peer.Peer.next.Goals as goal

pub invariant_of-self-in-Socket-1 : goal.invariant_of-self-in-Socket-1
invariant_of-self-in-Socket-1 c =
    let peer = c.self.inside in
    let stream = says_socket peer.voice c.in-Socket.socket peer.told (peer.sent ++ peer.output.items) c.in-Socket.is c.self.invariant.says in
    record { says = socket_controls peer.told peer.sent peer.output.items c.next.new.output.items stream c.next.ensures; handed = tt }

pub returns-in-Socket-clause-kept : goal.returns-in-Socket-clause-kept
returns-in-Socket-clause-kept c = keeps_controls c.self.inside _ _ c.self.view_is refl refl c.next.ensures
