-- What is proved by hand of `Peer::upgrade`.
use Rattle.std.proofs.Common.{◌++◌, ap, ◌∙◌}
use Rattle.sv_peer.specs.View.{PeerView}
use Rattle.sv_peer.proofs.Steps.{step_upgraded}
use Rattle.sv_peer.proofs.peer.Peer.upgrade.Goals as goal

pub invariant_of-self : goal.invariant_of-self
invariant_of-self g c =
    let peer = c.self.inside in
    let step = step_upgraded peer.voice c.upgraded.new.voice peer.told (peer.sent ++ peer.output.items) (ap (λ (p : PeerView). p.manner) c.self.view_is ∙ c.requires) c.upgraded.ensures c.self.invariant.says in
    record { says = step.says; handed = step.handed }

pub invariant_of-self-2 : goal.invariant_of-self-2
invariant_of-self-2 g c =
    let peer = c.self.inside in
    let step = step_upgraded peer.voice c.upgraded.new.voice peer.told (peer.sent ++ peer.output.items) (ap (λ (p : PeerView). p.manner) c.self.view_is ∙ c.requires) c.upgraded.ensures c.self.invariant.says in
    record { says = step.says; handed = step.handed }
