-- What is proved by hand of `values_of`.
use Rattle.std.proofs.lemmas.Result.{err_from_is_err_and}
use Rattle.sv_wire.specs.Fields.{value_from}
use Rattle.sv_wire.specs.Steps.{several}
use Rattle.sv_wire.proofs.Loop.{goes_on, ends, is_done}
use Rattle.sv_wire.proofs.fields.values_of.Goals as goal

pub returns-in_err-value : goal.returns-in_err-value
returns-in_err-value c =
    let p = err_from_is_err_and c.from_residual-in_err-value.result c.from_residual-in_err-value.ensures.1 in
    rw (p.1, p.2) (ends value_from c.in_err-value.field-0.0 c.loop.values c.args.count c.loop.counter c.loop.rest.now (several value_from c.args.count c.args.bytes.now) c.loop-test.true c.in_err-value.ensures c.loop.invariant)

pub loop-preserved : goal.loop-preserved
loop-preserved c =
    rw c.in_ok-push.ensures.ok (goes_on value_from c.loop.values c.args.count c.loop.counter c.loop.rest.now c.in_ok-value.value c.in_ok-value.after.now (several value_from c.args.count c.args.bytes.now) c.loop-test.true c.in_ok-value.ensures c.loop.invariant)

pub returns : goal.returns
returns c = is_done value_from c.loop.values c.args.count c.loop.counter c.loop.rest.now (several value_from c.args.count c.args.bytes.now) c.loop-test.false c.loop.invariant
