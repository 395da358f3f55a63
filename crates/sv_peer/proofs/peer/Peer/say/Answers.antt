-- What is proved by hand of `Peer::say`.
use Rattle.std.proofs.Common.{◌∙◌}
use Rattle.sv_peer.proofs.Steps.{step_added}
use Rattle.sv_peer.proofs.peer.Peer.say.Goals as goal

pub invariant_of-self-2 : goal.invariant_of-self-2
invariant_of-self-2 c =
    let peer = c.self.inside in
    let step = step_added peer.voice c.put.new.voice peer.told c.add.new.self peer.sent peer.output.items c.put.new.output.items c.deref.result.now c.args.reply.now
    c.put.ensures.same c.self.invariant.says c.in_ok-put.ensures.ok (c.deref.ensures.value ∙ c.in_ok-encode_into.ensures.bytes) c.add.ensures in
    record { says = step.says; handed = step.handed }
