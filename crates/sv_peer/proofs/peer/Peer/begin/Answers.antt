-- What is proved by hand of `Peer::begin`.
use Rattle.std.proofs.Common.{◌++◌, ap, ◌∙◌}
use Rattle.sv_peer.specs.View.{PeerView}
use Rattle.sv_peer.proofs.Steps.{step_begun}
use Rattle.sv_peer.proofs.peer.Peer.begin.Goals as goal

pub invariant_of-self : goal.invariant_of-self
invariant_of-self c =
    let peer = c.self.inside in
    let step = step_begun peer.voice c.in_ok-self-inside.field-0 c.args.first peer.told (peer.sent ++ peer.output.items) (ap (λ (p : PeerView). p.manner) c.self.view_is ∙ c.requires) c.in_ok-self-inside.ensures.manner c.in_ok-self-inside.ensures.handed c.self.invariant.says in
    record { says = step.says; handed = step.handed }
