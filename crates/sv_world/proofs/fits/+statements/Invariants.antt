-- Each call has fewer nodes before it, and the statements that are left of a block decide on it.
use Rattle.std.proofs.Common.{◌≡◌, ◌+◌, ◌-◌, ◌<◌, max, true, length, drop}
use Rattle.sv_world.specs.Parts.{first, parts, block, is_block}
use Rattle.sv_world.specs.PartTrees.{part_nodes, part_depth, fits}
use Rattle.sv_world.proofs.fits.+statements.Given as goal

abbrev pub decreases-stmt_fits : goal.decreases-stmt_fits
decreases-stmt_fits l = length l.nodes.now

abbrev pub decreases-block_fits : goal.decreases-block_fits
decreases-block_fits l = length l.nodes.now

abbrev pub invariant-block_fits-loop : goal.invariant-block_fits-loop
invariant-block_fits-loop l = record {
  kind : is_block (block (l.count - l.counter) (parts l.nodes)) ≡ true;
  keeps : fits l.limits (block (l.count - l.counter) (parts l.nodes)) ≡ fits l.limits (first (parts l.fn.nodes));
  few : l.left + part_nodes (first (parts l.fn.nodes)) ≡ l.fn.left + part_nodes (block (l.count - l.counter) (parts l.nodes));
  deep : max (part_depth (block (l.count - l.counter) (parts l.nodes))) l.depth ≡ max (part_depth (first (parts l.fn.nodes))) l.depth;
  behind : drop (l.count - l.counter) (parts l.nodes) ≡ drop 1 (parts l.fn.nodes);
  shorter : length l.nodes < length l.fn.nodes;
}
