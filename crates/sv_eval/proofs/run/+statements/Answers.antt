-- One more statement of a block.
use Rattle.std.proofs.Common.{◌≡◌, ◌+◌, ◌-◌, suc, drop, arith, refl, ◌∙◌}
use Rattle.sv_world.specs.Parts.{parts}
use Rattle.sv_eval.proofs.Walks.{next_gives}
use Rattle.sv_world.proofs.Sorted.{next_kind, next_behind}
use Rattle.sv_eval.proofs.run.+statements.Goals as goal

pub run_block-loop-preserved : goal.run_block-loop-preserved
run_block-loop-preserved t c =
    let n = c.block-count.result - c.loop.counter in
    let m = c.block-count.result - (c.loop.counter + 1) in
    let one : c.block-count.result - c.loop.counter ≡ suc (c.block-count.result - (c.loop.counter + 1)) = omega arith in
    let rest : parts c.run_stmt.new.nodes ≡ drop 1 (parts c.loop.nodes) = c.if-not-run_stmt.ensures.rest refl in
    record {
      kind = next_kind n m (parts c.loop.nodes) (parts c.run_stmt.new.nodes) one rest c.loop.invariant.kind;
      gives = next_gives n m (parts c.loop.nodes) (parts c.run_stmt.new.nodes) c.loop.slots c.run_stmt.new.slots one rest c.loop.invariant.kind c.if-not-run_stmt.ensures.after ∙ c.loop.invariant.gives;
      behind = next_behind n m (parts c.loop.nodes) (parts c.run_stmt.new.nodes) one rest ∙ c.loop.invariant.behind;
      shorter = omega (arith, c.if-not-run_stmt.ensures.shorter refl, c.loop.invariant.shorter);
    }
