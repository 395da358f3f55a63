-- The nodes that are left are the same just where all are.
use Rattle.std.proofs.Common.{◌≡◌, drop}
use Rattle.sv_world.specs.Same.{are_same_nodes}
use Rattle.sv_world.proofs.equal.same_nodes.Given as goal

abbrev pub invariant-loop-node : goal.invariant-loop-node
invariant-loop-node l = are_same_nodes (drop l.node-index l.nodes) l.left ≡ are_same_nodes l.nodes l.others
