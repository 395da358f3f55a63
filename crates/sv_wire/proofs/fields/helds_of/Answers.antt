-- What is proved by hand of `helds_of`.
use Rattle.std.proofs.lemmas.Result.{err_from_is_err_and}
use Rattle.std.proofs.Common.{Ok, refl}
use Rattle.sv_wire.specs.Fields.{held_from, helds_from}
use Rattle.sv_wire.specs.Steps.{in_turn}
use Rattle.sv_wire.proofs.Loop.{turn_goes_on, turn_ends, turn_is_done, fails_first}
use Rattle.sv_wire.proofs.fields.helds_of.Goals as goal

pub returns-in_err-held : goal.returns-in_err-held
unfolding helds_from
returns-in_err-held c =
    let p = err_from_is_err_and c.from_residual-in_err-held.result c.from_residual-in_err-held.ensures.1 in
    rw (p.1, p.2) (fails_first c.in_err-held.field-0.0 (in_turn held_from c.args.count 0 c.args.bytes.now) (λ x. Ok (x.0, x.2)) (turn_ends held_from c.in_err-held.field-0.0 c.loop.head c.args.count c.loop.counter c.loop.least c.loop.rest.now (in_turn held_from c.args.count 0 c.args.bytes.now) c.loop-test.true c.in_err-held.ensures c.loop.invariant))

pub loop-preserved : goal.loop-preserved
loop-preserved c =
    rw c.in_ok-push.ensures.ok (turn_goes_on held_from c.loop.head c.args.count c.loop.counter c.loop.least c.loop.rest.now c.in_ok-held.held c.in_ok-held.next c.in_ok-held.after.now (in_turn held_from c.args.count 0 c.args.bytes.now) c.loop-test.true c.in_ok-held.ensures c.loop.invariant)

pub returns : goal.returns
unfolding helds_from
returns c = rw (turn_is_done held_from c.loop.head c.args.count c.loop.counter c.loop.least c.loop.rest.now (in_turn held_from c.args.count 0 c.args.bytes.now) c.loop-test.false c.loop.invariant) refl
