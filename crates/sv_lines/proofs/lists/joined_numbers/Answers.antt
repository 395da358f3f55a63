-- What is proved by hand of `joined_numbers`.
use Rattle.std.proofs.Common.{◌≡◌, [], ◌∷◌, ◌++◌, sym}
use Rattle.std.specs.Int.{w64}
use Rattle.std.proofs.lemmas.Int.{to_z-of_z}
use Rattle.std.proofs.lemmas.Result.{err_from_is_err_and}
use Rattle.sv_lines.specs.Reading.{joined_by, signed_read}
use Rattle.sv_lines.proofs.Turns.{joined_out, joined_fails, joined_ends, joined_goes}
use Rattle.sv_lines.proofs.lists.joined_numbers.Goals as goal

pub returns-in_err-number : goal.returns-in_err-number
returns-in_err-number c =
    let p = err_from_is_err_and c.from_residual.result c.from_residual.ensures.1 in
    rw (p.1, p.2)
    (λ w. joined_fails signed_read (41 ∷ []) (44 ∷ []) c.args.turns c.loop.counter c.loop.value c.loop.left.now (joined_by signed_read (41 ∷ []) (44 ∷ []) c.args.turns [] c.args.text.now) c.loop-test.true c.loop.invariant (sym c.in_err-number.ensures.read))

pub returns-then-ends : goal.returns-then-ends
returns-then-ends c =
    let same : c.push.new.self ≡ c.loop.value ++ c.in_ok-number.number ∷ [] = rw (← to_z-of_z w64 c.in_ok-number.number c.in_ok-number.ensures.long) c.in_ok-push.ensures.ok in
    joined_ends signed_read (41 ∷ []) (44 ∷ []) c.args.turns c.loop.counter c.loop.value c.loop.left.now (joined_by signed_read (41 ∷ []) (44 ∷ []) c.args.turns [] c.args.text.now) c.loop-test.true c.loop.invariant
    c.in_ok-number.number c.in_ok-number.after.now c.push.new.self (sym c.in_ok-number.ensures.read) same c.in_ok-ends.rest.now (rw c.if-ends.true at (sym c.in_ok-ends.ensures))

pub loop-preserved : goal.loop-preserved
loop-preserved c =
    let same : c.push.new.self ≡ c.loop.value ++ c.in_ok-number.number ∷ [] = rw (← to_z-of_z w64 c.in_ok-number.number c.in_ok-number.ensures.long) c.in_ok-push.ensures.ok in
    joined_goes signed_read (41 ∷ []) (44 ∷ []) c.args.turns c.loop.counter c.loop.value c.loop.left.now (joined_by signed_read (41 ∷ []) (44 ∷ []) c.args.turns [] c.args.text.now) c.loop-test.true c.loop.invariant
    c.in_ok-number.number c.in_ok-number.after.now c.push.new.self (sym c.in_ok-number.ensures.read) same c.in_ok-ends.rest.now (rw c.if-ends.false at (sym c.in_ok-ends.ensures))

pub returns : goal.returns
returns c =
    λ w. joined_out signed_read (41 ∷ []) (44 ∷ []) c.args.turns c.loop.counter c.loop.value c.loop.left.now (joined_by signed_read (41 ∷ []) (44 ∷ []) c.args.turns [] c.args.text.now) c.loop-test.false c.loop.invariant
