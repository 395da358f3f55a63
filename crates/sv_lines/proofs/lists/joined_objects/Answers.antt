-- What is proved by hand of `joined_objects`.
use Rattle.std.proofs.Common.{[], ◌∷◌, sym}
use Rattle.std.proofs.lemmas.Result.{err_from_is_err_and}
use Rattle.sv_lines.specs.Reading.{joined_by, object_read}
use Rattle.sv_lines.proofs.Turns.{joined_out, joined_fails, joined_ends, joined_goes}
use Rattle.sv_lines.proofs.lists.joined_objects.Goals as goal

pub returns-in_err-object : goal.returns-in_err-object
returns-in_err-object c =
    let p = err_from_is_err_and c.from_residual.result c.from_residual.ensures.1 in
    rw (p.1, p.2)
    (λ w. joined_fails object_read (93 ∷ []) (32 ∷ []) c.args.turns c.loop.counter c.loop.objects c.loop.left.now (joined_by object_read (93 ∷ []) (32 ∷ []) c.args.turns [] c.args.text.now) c.loop-test.true c.loop.invariant (sym c.in_err-object.ensures))

pub returns-then-ends : goal.returns-then-ends
returns-then-ends c =
    joined_ends object_read (93 ∷ []) (32 ∷ []) c.args.turns c.loop.counter c.loop.objects c.loop.left.now (joined_by object_read (93 ∷ []) (32 ∷ []) c.args.turns [] c.args.text.now) c.loop-test.true c.loop.invariant
    c.in_ok-object.object c.in_ok-object.after.now c.push.new.self (sym c.in_ok-object.ensures) c.in_ok-push.ensures.ok c.in_ok-ends.rest.now (rw c.if-ends.true at (sym c.in_ok-ends.ensures))

pub loop-preserved : goal.loop-preserved
loop-preserved c =
    joined_goes object_read (93 ∷ []) (32 ∷ []) c.args.turns c.loop.counter c.loop.objects c.loop.left.now (joined_by object_read (93 ∷ []) (32 ∷ []) c.args.turns [] c.args.text.now) c.loop-test.true c.loop.invariant
    c.in_ok-object.object c.in_ok-object.after.now c.push.new.self (sym c.in_ok-object.ensures) c.in_ok-push.ensures.ok c.in_ok-ends.rest.now (rw c.if-ends.false at (sym c.in_ok-ends.ensures))

pub returns : goal.returns
returns c =
    λ w. joined_out object_read (93 ∷ []) (32 ∷ []) c.args.turns c.loop.counter c.loop.objects c.loop.left.now (joined_by object_read (93 ∷ []) (32 ∷ []) c.args.turns [] c.args.text.now) c.loop-test.false c.loop.invariant
