-- The loop invariant of `put_nodes`.
use Rattle.std.proofs.Common.{◌≡◌, ◌++◌, take, flat_map}
use Rattle.sv_wire.specs.Spelling.{node_bytes}
use Rattle.sv_wire.proofs.put_body.put_nodes.Given as goal

abbrev pub invariant-loop-node : goal.invariant-loop-node
invariant-loop-node l = l.out.items ≡ l.fn.out.items ++ flat_map node_bytes (take l.node-index l.nodes)
