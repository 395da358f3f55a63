-- The number that a word writes, by whether it is parsed and within the bounds.
use Rattle.std.proofs.Common.{refl, sym}
use Rattle.std.proofs.lemmas.Bool.{true≢false}
use Rattle.sv_ending.proofs.Decimals.{not_plain, parsed, unparsed}
use Rattle.sv_ending.proofs.numbers.number_in.Goals as goal

pub returns-then-not-is_plain-clause-number : goal.returns-then-not-is_plain-clause-number
returns-then-not-is_plain-clause-number c = not_plain _ _ c.ranges.most.fits c.args.text.now (λ plain. true≢false (sym (c.if-not-is_plain.ensures.1 (rw c.as_bytes.ensures.value plain))))

pub returns-in-Ok-clause-number : goal.returns-in-Ok-clause-number
returns-in-Ok-clause-number c =
    let plain = rw c.as_bytes.ensures.value at (c.if-not-is_plain.ensures.0 refl) in
    parsed _ _ c.ranges.most.fits c.args.text.now plain c.parse.result c.parse.ensures.value.0 c.in-Ok.number c.in-Ok.is c.if-least-number.true c.if-number-most.true

pub returns-in_default-3-clause-number : goal.returns-in_default-3-clause-number
returns-in_default-3-clause-number c =
    let plain = rw c.as_bytes.ensures.value at (c.if-not-is_plain.ensures.0 refl) in
    unparsed _ _ c.ranges.most.fits c.args.text.now plain c.parse.result c.parse.ensures.value.0 c.in_default.field-0 c.in_default.is
