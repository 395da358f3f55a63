-- What is proved by hand of `results_of`.
use Rattle.std.proofs.lemmas.Result.{err_from_is_err_and}
use Rattle.sv_wire.specs.Fields.{result_from}
use Rattle.sv_wire.specs.Steps.{several}
use Rattle.sv_wire.proofs.Loop.{goes_on, ends, is_done}
use Rattle.sv_wire.proofs.fields.results_of.Goals as goal

pub returns-in_err-found : goal.returns-in_err-found
returns-in_err-found c =
    let p = err_from_is_err_and c.from_residual-in_err-found.result c.from_residual-in_err-found.ensures.1 in
    rw (p.1, p.2) (ends result_from c.in_err-found.field-0.0 c.loop.results c.args.count c.loop.counter c.loop.rest.now (several result_from c.args.count c.args.bytes.now) c.loop-test.true c.in_err-found.ensures c.loop.invariant)

pub loop-preserved : goal.loop-preserved
loop-preserved c =
    rw c.in_ok-push.ensures.ok (goes_on result_from c.loop.results c.args.count c.loop.counter c.loop.rest.now c.in_ok-found.found c.in_ok-found.after.now (several result_from c.args.count c.args.bytes.now) c.loop-test.true c.in_ok-found.ensures c.loop.invariant)

pub returns : goal.returns
returns c = is_done result_from c.loop.results c.args.count c.loop.counter c.loop.rest.now (several result_from c.args.count c.args.bytes.now) c.loop-test.false c.loop.invariant
