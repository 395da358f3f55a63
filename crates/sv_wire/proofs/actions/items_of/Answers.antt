-- What is proved by hand of `items_of`.
use Rattle.std.proofs.lemmas.Result.{err_from_is_err_and}
use Rattle.sv_wire.specs.Messages.{item_from}
use Rattle.sv_wire.specs.Steps.{several}
use Rattle.sv_wire.proofs.Loop.{goes_on, ends, is_done}
use Rattle.sv_wire.proofs.actions.items_of.Goals as goal

pub returns-in_err-item : goal.returns-in_err-item
returns-in_err-item c =
    let p = err_from_is_err_and c.from_residual-in_err-item.result c.from_residual-in_err-item.ensures.1 in
    rw (p.1, p.2) (ends item_from c.in_err-item.field-0.0 c.loop.items c.args.count c.loop.counter c.loop.rest.now (several item_from c.args.count c.args.bytes.now) c.loop-test.true c.in_err-item.ensures c.loop.invariant)

pub loop-preserved : goal.loop-preserved
loop-preserved c =
    rw c.in_ok-push.ensures.ok (goes_on item_from c.loop.items c.args.count c.loop.counter c.loop.rest.now c.in_ok-item.item c.in_ok-item.after.now (several item_from c.args.count c.args.bytes.now) c.loop-test.true c.in_ok-item.ensures c.loop.invariant)

pub returns : goal.returns
returns c = is_done item_from c.loop.items c.args.count c.loop.counter c.loop.rest.now (several item_from c.args.count c.args.bytes.now) c.loop-test.false c.loop.invariant
