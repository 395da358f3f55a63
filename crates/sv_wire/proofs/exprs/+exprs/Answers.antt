-- What is proved by hand of the functions of the cycle `exprs`.
use Rattle.std.proofs.lemmas.Result.{err_from_is_err_and}
use Rattle.sv_world.specs.Spelled.{expr_spelled}
use Rattle.sv_wire.specs.Trees.{expr_from}
use Rattle.sv_wire.proofs.Flat.{appended_fails}
use Rattle.sv_wire.proofs.Trees.{expr_fails}
use Rattle.sv_wire.proofs.exprs.+exprs.Goals as goal

pub expr_next-returns-in_err-kind-clause-gives : goal.expr_next-returns-in_err-kind-clause-gives
expr_next-returns-in_err-kind-clause-gives t c =
    let p = err_from_is_err_and c.from_residual.result c.from_residual.ensures.1 in
    rw (p.1, p.2) (appended_fails expr_spelled c.args.reader.now.out.items c.in_err-kind.field-0.0 (expr_from c.args.depth c.args.reader.now.nodes c.args.reader.now.rest.now) (expr_fails c.in_err-kind.field-0.0 c.args.depth c.args.reader.now.nodes c.args.reader.now.rest.now c.in_err-kind.ensures.gives))
