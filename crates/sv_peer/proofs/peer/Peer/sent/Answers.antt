-- What is proved by hand of `Peer::sent`.
use Rattle.sv_peer.proofs.Steps.{step_sent}
use Rattle.sv_peer.proofs.peer.Peer.sent.Goals as goal

pub invariant_of-self : goal.invariant_of-self
invariant_of-self c =
    let peer = c.self.inside in
    let step = step_sent peer.voice peer.told peer.sent peer.output.items c.add.new.self c.cut_front.new.bytes.items c.args.count c.add.ensures c.cut_front.ensures (record { says = c.self.invariant.says; handed = c.self.invariant.handed }) in
    record { says = step.says; handed = step.handed }
