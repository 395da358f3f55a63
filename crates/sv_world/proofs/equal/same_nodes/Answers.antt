-- Where the other nodes end first, they are not the same.
use Rattle.std.proofs.Common.{◌≤◌, length, drop, sym, ◌∙◌, arith, length-drop}
use Rattle.sv_world.proofs.Same.{shorter_differs}
use Rattle.sv_world.proofs.equal.same_nodes.Goals as goal

pub returns-in_default : goal.returns-in_default
returns-in_default c =
    let more : 1 ≤ length (drop c.loop-node.node-index c.args.nodes.now) = omega (arith, length-drop c.loop-node.node-index c.args.nodes.now, c.loop-node-test.true) in
    sym (shorter_differs (drop c.loop-node.node-index c.args.nodes.now) c.loop-node.left.now more c.in_default.len_below) ∙ c.loop-node.invariant
