-- What is proved by hand of the functions of the cycle `stmts`.
use Rattle.std.proofs.lemmas.Result.{err_from_is_err_and}
use Rattle.sv_world.specs.Spelled.{stmt_spelled, run_spelled}
use Rattle.sv_wire.specs.Steps.{in_turn}
use Rattle.sv_wire.specs.Trees.{appended, stmt_from}
use Rattle.sv_wire.proofs.Flat.{appended_fails, run_goes_on, run_ends, run_is_done}
use Rattle.sv_wire.proofs.Trees.{stmt_fails}
use Rattle.sv_wire.proofs.stmts.+stmts.Goals as goal

pub stmt_next-returns-in_err-kind-clause-gives : goal.stmt_next-returns-in_err-kind-clause-gives
stmt_next-returns-in_err-kind-clause-gives t c =
    let p = err_from_is_err_and c.from_residual.result c.from_residual.ensures.1 in
    rw (p.1, p.2) (appended_fails stmt_spelled c.args.reader.now.out.items c.in_err-kind.field-0.0 (stmt_from c.args.depth c.args.reader.now.nodes c.args.reader.now.rest.now) (stmt_fails c.in_err-kind.field-0.0 c.args.depth c.args.reader.now.nodes c.args.reader.now.rest.now c.in_err-kind.ensures.gives))

pub stmts_next-returns-in_err-stmt_next-clause-gives : goal.stmts_next-returns-in_err-stmt_next-clause-gives
stmts_next-returns-in_err-stmt_next-clause-gives t c =
    let p = err_from_is_err_and c.from_residual.result c.from_residual.ensures.1 in
    rw (p.1, p.2) (run_ends (λ n rest. stmt_from c.args.depth n rest) c.loop.reader.out.items c.args.count c.loop.counter c.loop.reader.nodes c.loop.reader.rest.now _ c.loop.invariant.read c.in_err-stmt_next.field-0.0 c.loop-test.true c.in_err-stmt_next.ensures.gives)

pub stmts_next-loop-preserved : goal.stmts_next-loop-preserved
stmts_next-loop-preserved t c =
    record {
      few = c.in_ok-stmt_next.ensures.few;
      read = run_goes_on (λ n rest. stmt_from c.args.depth n rest) c.loop.reader.out.items c.args.count c.loop.counter c.loop.reader.nodes c.loop.reader.rest.now _ c.loop.invariant.read _ c.stmt_next.new.reader.nodes c.stmt_next.new.reader.rest.now c.loop-test.true c.in_ok-stmt_next.ensures.gives;
    }

pub stmts_next-returns-clause-gives : goal.stmts_next-returns-clause-gives
stmts_next-returns-clause-gives t c = run_is_done (λ n rest. stmt_from c.args.depth n rest) c.loop.reader.out.items c.args.count c.loop.counter c.loop.reader.nodes c.loop.reader.rest.now _ c.loop.invariant.read c.loop-test.false
