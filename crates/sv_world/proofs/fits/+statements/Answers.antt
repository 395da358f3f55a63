-- One more statement of a block, and a statement that does not fit.
use Rattle.std.proofs.Common.{◌≡◌, suc, ◌+◌, ◌-◌, ◌≤◌, Bool, true, ◌&&◌, drop, refl, sym, ◌∙◌, arith}
use Rattle.sv_world.specs.Parts.{first, parts, block}
use Rattle.sv_world.specs.PartTrees.{fits}
use Rattle.sv_world.proofs.Measured.{next_fits, next_nodes, next_depth, first_fits, first_nodes, first_depth}
use Rattle.sv_world.proofs.Sorted.{next_kind, next_behind}
use Rattle.sv_world.proofs.fits.+statements.Goals as goal

right_is : (x y : Bool) → x ≡ true → (x && y) ≡ y
right_is x y e = grind arith

pub block_fits-loop-preserved : goal.block_fits-loop-preserved
block_fits-loop-preserved t c =
    let n = c.block-count.result - c.loop.counter in
    let m = c.block-count.result - (c.loop.counter + 1) in
    let ps = parts c.loop.nodes in
    let qs = parts c.stmt_fits.new.nodes in
    let one : c.block-count.result - c.loop.counter ≡ suc (c.block-count.result - (c.loop.counter + 1)) = omega arith in
    let rest : parts c.stmt_fits.new.nodes ≡ drop 1 (parts c.loop.nodes) = c.in_ok-left.ensures.rest in
    let more = next_nodes n m ps qs one rest c.loop.invariant.kind in
    let deeper = next_depth n m ps qs one rest c.loop.invariant.kind in
    record {
      kind = next_kind n m ps qs one rest c.loop.invariant.kind;
      keeps = sym (right_is (fits c.args.limits.now (first ps)) (fits c.args.limits.now (block m qs)) c.in_ok-left.ensures.fits)
          ∙ sym (next_fits c.args.limits.now n m ps qs one rest c.loop.invariant.kind) ∙ c.loop.invariant.keeps;
      few = omega (arith, more, c.in_ok-left.ensures.nodes, c.loop.invariant.few);
      deep = omega (arith, deeper, c.in_ok-left.ensures.depth, c.loop.invariant.deep);
      behind = next_behind n m ps qs one rest ∙ c.loop.invariant.behind;
      shorter = omega (arith, c.in_ok-left.ensures.shorter, c.loop.invariant.shorter);
    }

pub block_fits-returns-in_err-left-clause-refuses : goal.block_fits-returns-in_err-left-clause-refuses
block_fits-returns-in_err-left-clause-refuses t c none whole few shallow =
    let n = c.block-count.result - c.loop.counter in
    let limits = c.args.limits.now in
    let ps = parts c.loop.nodes in
    let some : 1 ≤ c.block-count.result - c.loop.counter = omega arith in
    let kind = c.loop.invariant.kind in
    let nodes = first_nodes limits n ps some kind in
    let depth = first_depth limits n ps some kind in
    c.in_err-left.ensures.refuses refl (first_fits limits n ps some kind (c.loop.invariant.keeps ∙ whole)) (omega (arith, nodes, few, c.loop.invariant.few)) (omega (arith, depth, shallow, c.loop.invariant.deep))
