-- The nodes that are left pass just where all do.
use Rattle.std.proofs.Common.{◌≡◌, drop}
use Rattle.sv_world.specs.Names.{set_passes, get_passes}
use Rattle.sv_world.specs.NodeTests.{nodes_pass}
use Rattle.sv_world.proofs.names.passes_in_nodes.Given as goal

abbrev pub invariant-loop-node : goal.invariant-loop-node
invariant-loop-node l = nodes_pass (set_passes l.test) (get_passes l.test) (drop l.node-index l.nodes) ≡ nodes_pass (set_passes l.test) (get_passes l.test) l.nodes
