-- What is proved by hand of `objects_of`.
use Rattle.std.proofs.lemmas.Result.{err_from_is_err_and}
use Rattle.std.proofs.Common.{Ok, refl}
use Rattle.sv_wire.specs.Fields.{object_from, objects_from}
use Rattle.sv_wire.specs.Steps.{in_turn}
use Rattle.sv_wire.proofs.Loop.{turn_goes_on, turn_ends, turn_is_done, fails_first}
use Rattle.sv_wire.proofs.fields.objects_of.Goals as goal

pub returns-in_err-object : goal.returns-in_err-object
unfolding objects_from
returns-in_err-object c =
    let p = err_from_is_err_and c.from_residual.result c.from_residual.ensures.1 in
    rw (p.1, p.2) (fails_first c.in_err-object.field-0.0 (in_turn object_from c.args.count 0 c.args.bytes.now) (λ x. Ok (x.0, x.2)) (turn_ends object_from c.in_err-object.field-0.0 c.loop.objects c.args.count c.loop.counter c.loop.least c.loop.rest.now (in_turn object_from c.args.count 0 c.args.bytes.now) c.loop-test.true c.in_err-object.ensures c.loop.invariant))

pub loop-preserved : goal.loop-preserved
loop-preserved c =
    rw c.in_ok-push.ensures.ok (turn_goes_on object_from c.loop.objects c.args.count c.loop.counter c.loop.least c.loop.rest.now c.in_ok-object.object c.in_ok-object.next c.in_ok-object.after.now (in_turn object_from c.args.count 0 c.args.bytes.now) c.loop-test.true c.in_ok-object.ensures c.loop.invariant)

pub returns : goal.returns
unfolding objects_from
returns c = rw (turn_is_done object_from c.loop.objects c.args.count c.loop.counter c.loop.least c.loop.rest.now (in_turn object_from c.args.count 0 c.args.bytes.now) c.loop-test.false c.loop.invariant) refl
