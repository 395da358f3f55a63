-- What is proved by hand of `changes`.
use Rattle.sv_link.proofs.pipe_net.PipeNet.changes.Goals as goal

pub returns-then-next_fails-clause-changed : goal.returns-then-next_fails-clause-changed
returns-then-next_fails-clause-changed g c =
    let is = c.some_received.ensures in
    ((λ t. (c.next_fails.ensures.fails.0 c.if-next_fails.true, is.0 t)), λ p. is.1 p.1)
