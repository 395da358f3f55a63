-- The nodes counted so far and those that are left make all.
use Rattle.std.proofs.Common.{◌≡◌, ◌+◌, ◌≤◌, drop}
use Rattle.sv_world.specs.NodeTests.{nodes_weight}
use Rattle.sv_world.proofs.names.weight.Given as goal

abbrev pub invariant-loop-node : goal.invariant-loop-node
invariant-loop-node l = record {
  counted : l.weight + nodes_weight (drop l.node-index l.nodes) ≡ nodes_weight l.nodes;
  few : l.weight ≤ l.node-index;
}
