-- What the check leaves to prove of `have_common_bit`.
use Rattle.std.proofs.Common.{◌∙◌, bit_and, slice_index, ap, arith}
use Rattle.sv_queue.proofs.SlotWords.{common_bit, no_common_bit}
use Rattle.sv_queue.proofs.slots.have_common_bit.Goals as goal

pub returns-then-words-place-ne0-clause-has : goal.returns-then-words-place-ne0-clause-has
returns-then-words-place-ne0-clause-has c _ = common_bit c.args.words.now c.args.others.now c.loop-place.place (c.type_inv.words c.loop-place.place).fits
    (λ e. c.if-words-place-ne0.true (ap (bit_and (slice_index c.args.words.now c.loop-place.place)) c.word_at.ensures ∙ e))

pub returns-clause-none : goal.returns-clause-none
returns-clause-none c _ = no_common_bit c.args.words.now c.args.others.now (λ i low. c.loop-place.invariant i (omega (arith, low, c.loop-place-test.false)))
