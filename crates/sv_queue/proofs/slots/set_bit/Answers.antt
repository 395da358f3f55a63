-- What the check leaves to prove of `set_bit`.
use Rattle.std.proofs.Common.{arith}
use Rattle.sv_queue.proofs.SlotWords.{has_bit-set}
use Rattle.sv_queue.proofs.slots.set_bit.Goals as goal

pub returns-clause-bits : goal.returns-clause-bits
returns-clause-bits c s = has_bit-set c.args.words.now c.args.slot s (omega (arith, c.requires))
