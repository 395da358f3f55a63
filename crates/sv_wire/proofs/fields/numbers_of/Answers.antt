-- What is proved by hand of `numbers_of`.
use Rattle.std.proofs.lemmas.Result.{err_from_is_err_and}
use Rattle.std.proofs.lemmas.Int.{to_z-of_z}
use Rattle.std.proofs.Common.{◌≡◌, ◌++◌, ◌∷◌, []}
use Rattle.sv_wire.specs.Fields.{int_from}
use Rattle.std.specs.Int.{w64}
use Rattle.sv_wire.specs.Steps.{several}
use Rattle.sv_wire.proofs.Loop.{goes_on, ends, is_done}
use Rattle.sv_wire.proofs.fields.numbers_of.Goals as goal

pub returns-in_err-number : goal.returns-in_err-number
returns-in_err-number c =
    let p = err_from_is_err_and c.from_residual.result c.from_residual.ensures.1 in
    rw (p.1, p.2) (ends (int_from w64) c.in_err-number.field-0.0 c.loop.numbers c.args.count c.loop.counter c.loop.rest.now (several (int_from w64) c.args.count c.args.bytes.now) c.loop-test.true c.in_err-number.ensures.gives c.loop.invariant)

pub loop-preserved : goal.loop-preserved
loop-preserved c =
    let more = goes_on (int_from w64) c.loop.numbers c.args.count c.loop.counter c.loop.rest.now c.in_ok-number.number c.in_ok-number.after.now (several (int_from w64) c.args.count c.args.bytes.now) c.loop-test.true c.in_ok-number.ensures.gives c.loop.invariant in
    let same : c.push.new.self ≡ c.loop.numbers ++ c.in_ok-number.number ∷ [] = rw (← to_z-of_z w64 c.in_ok-number.number c.in_ok-number.ensures.signed) c.in_ok-push.ensures.ok in
    rw same more

pub returns : goal.returns
returns c = is_done (int_from w64) c.loop.numbers c.args.count c.loop.counter c.loop.rest.now (several (int_from w64) c.args.count c.args.bytes.now) c.loop-test.false c.loop.invariant
