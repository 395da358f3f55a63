-- Each call has fewer nodes before it, and the statements that are left of a block give what all give.
use Rattle.std.proofs.Common.{◌≡◌, ◌-◌, ◌<◌, true, length, drop}
use Rattle.sv_world.specs.Parts.{first, parts, block, is_block}
use Rattle.sv_eval.specs.Walks.{block_after}
use Rattle.sv_eval.proofs.run.+statements.Given as goal

abbrev pub decreases-run_stmt : goal.decreases-run_stmt
decreases-run_stmt l = length l.nodes.now

abbrev pub decreases-run_block : goal.decreases-run_block
decreases-run_block l = length l.nodes.now

abbrev pub invariant-run_block-loop : goal.invariant-run_block-loop
invariant-run_block-loop l = record {
  kind : is_block (block (l.count - l.counter) (parts l.nodes)) ≡ true;
  gives : block_after (block (l.count - l.counter) (parts l.nodes)) l.slots ≡ block_after (first (parts l.fn.nodes)) l.fn.slots;
  behind : drop (l.count - l.counter) (parts l.nodes) ≡ drop 1 (parts l.fn.nodes);
  shorter : length l.nodes < length l.fn.nodes;
}
