-- The turns of a block: its end, one more statement, a fault, and no turn left.
use Rattle.std.proofs.Common.{◌≡◌, length, refl, sym, subst, ◌∙◌, List, arith}
use Rattle.std.proofs.lemmas.Result.{err_from_is_err_and}
use Rattle.sv_world.specs.declared.node.Node.{Node}
use Rattle.sv_text.specs.Reading.{Read, Fails, stmt_at}
use Rattle.sv_text.proofs.Flat.{block_goes_on, run_ends, run_goes_on, run_fails, run_is_full}
use Rattle.sv_text.proofs.statement.+statement.Goals as goal

pub block_at-returns-then-is_at-clause-gives : goal.block_at-returns-then-is_at-clause-gives
block_at-returns-then-is_at-clause-gives t c =
    let stmts = stmt_at c.args.reads.now c.args.depth in
    let at : c.len-place.result ≡ length c.args.parser.now.out.items = omega (arith, c.len-place.ensures, c.args.parser.now.out.ok) in
    let long : c.len.result ≡ length c.loop-count.parser.out.items = omega (arith, c.len.ensures, c.loop-count.parser.out.ok) in
    rw (c.advance.ensures, long)
    (block_goes_on stmts c.args.parser.now.out.items c.args.parser.now.started c.args.parser.now.cursor c.expect.new.self c.len-place.result c.push.new.self.items _ (sym c.in_ok-expect.ensures) at c.in_ok-push.ensures.items
    (run_ends stmts 65 c.len-place.result c.loop-count.count c.loop-count.parser.out.items c.loop-count.parser.started c.loop-count.parser.cursor _ c.loop-count.invariant.told c.loop-count-test.true (sym c.if-is_at.ensures)))

pub block_at-returns-in_err-stmt_at-clause-gives : goal.block_at-returns-in_err-stmt_at-clause-gives
block_at-returns-in_err-stmt_at-clause-gives t c =
    let stmts = stmt_at c.args.reads.now c.args.depth in
    let at : c.len-place.result ≡ length c.args.parser.now.out.items = omega (arith, c.len-place.ensures, c.args.parser.now.out.ok) in
    let p = err_from_is_err_and c.from_residual-in_err-stmt_at.result c.from_residual-in_err-stmt_at.ensures.1 in
    rw (p.1, p.2)
    (subst (λ (read : Read (List Node)). Fails c.in_err-stmt_at.field-0.0 read)
    (sym (block_goes_on stmts c.args.parser.now.out.items c.args.parser.now.started c.args.parser.now.cursor c.expect.new.self c.len-place.result c.push.new.self.items _ (sym c.in_ok-expect.ensures) at c.in_ok-push.ensures.items refl))
    (run_fails stmts 65 c.len-place.result c.loop-count.count c.loop-count.parser.out.items c.loop-count.parser.started c.loop-count.parser.cursor _ c.loop-count.invariant.told c.loop-count-test.true (sym c.if-is_at.ensures) c.in_err-stmt_at.field-0.0 c.in_err-stmt_at.ensures.gives))

pub block_at-loop-count-preserved : goal.block_at-loop-count-preserved
block_at-loop-count-preserved t c =
    record {
      few = c.in_ok-stmt_at.ensures.few;
      long = omega (arith, c.loop-count.invariant.long, c.in_ok-stmt_at.ensures.longer);
      told = run_goes_on (stmt_at c.args.reads.now c.args.depth) 65 c.len-place.result c.loop-count.count c.loop-count.parser.out.items c.loop-count.parser.started c.loop-count.parser.cursor _ c.loop-count.invariant.told c.loop-count-test.true (sym c.if-is_at.ensures) (c.stmt_at.new.parser.out.items, c.stmt_at.new.parser.started, c.stmt_at.new.parser.cursor) c.in_ok-stmt_at.ensures.gives;
    }

pub block_at-returns-clause-gives : goal.block_at-returns-clause-gives
block_at-returns-clause-gives t c =
    let stmts = stmt_at c.args.reads.now c.args.depth in
    let at : c.len-place.result ≡ length c.args.parser.now.out.items = omega (arith, c.len-place.ensures, c.args.parser.now.out.ok) in
    rw c.fault.ensures
    (block_goes_on stmts c.args.parser.now.out.items c.args.parser.now.started c.args.parser.now.cursor c.expect.new.self c.len-place.result c.push.new.self.items _ (sym c.in_ok-expect.ensures) at c.in_ok-push.ensures.items
    (run_is_full stmts 65 c.len-place.result c.loop-count.count c.loop-count.parser.out.items c.loop-count.parser.started c.loop-count.parser.cursor _ c.loop-count.invariant.told c.loop-count-test.false))
