-- What is proved by hand of `Socket::step`.
use Rattle.sv_peer.proofs.Controls.{read_controls}
use Rattle.sv_peer.proofs.socket.Socket.step.Goals as goal

pub invariant_of-self-then-step-len : goal.invariant_of-self-then-step-len
invariant_of-self-then-step-len c =
    (read_controls c.self.inside.context c.read.new.self c.deref_mut.result.now c.args.output.now.items c.read.new.output.items c.self.invariant c.in-Ok.ensures.leaves).server

pub returns : goal.returns
returns c =
    (read_controls c.self.inside.context c.read.new.self c.deref_mut.result.now c.args.output.now.items c.read.new.output.items c.self.invariant c.in-Ok.ensures.leaves).gains
