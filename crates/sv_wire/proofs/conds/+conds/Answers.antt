-- What is proved by hand of the functions of the cycle `conds`.
use Rattle.std.proofs.lemmas.Result.{err_from_is_err_and}
use Rattle.sv_world.specs.Spelled.{cond_spelled}
use Rattle.sv_wire.specs.Trees.{cond_from}
use Rattle.sv_wire.proofs.Flat.{appended_fails}
use Rattle.sv_wire.proofs.Trees.{cond_fails}
use Rattle.sv_wire.proofs.conds.+conds.Goals as goal

pub cond_next-returns-in_err-kind-clause-gives : goal.cond_next-returns-in_err-kind-clause-gives
cond_next-returns-in_err-kind-clause-gives t c =
    let p = err_from_is_err_and c.from_residual.result c.from_residual.ensures.1 in
    rw (p.1, p.2) (appended_fails cond_spelled c.args.reader.now.out.items c.in_err-kind.field-0.0 (cond_from c.args.depth c.args.reader.now.nodes c.args.reader.now.rest.now) (cond_fails c.in_err-kind.field-0.0 c.args.depth c.args.reader.now.nodes c.args.reader.now.rest.now c.in_err-kind.ensures.gives))
