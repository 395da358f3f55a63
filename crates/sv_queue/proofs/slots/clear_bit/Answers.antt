-- What the check leaves to prove of `clear_bit`.
use Rattle.sv_queue.proofs.SlotWords.{has_bit-clear, has_bit-gone}
use Rattle.sv_queue.proofs.slots.clear_bit.Goals as goal

pub returns-then-place-words-clause-bits : goal.returns-then-place-words-clause-bits
returns-then-place-words-clause-bits c s = has_bit-clear c.args.words.now c.args.slot s c.if-place-words.true
