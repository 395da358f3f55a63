-- The line of a fault with its numbers.
use Rattle.sv_join.proofs.ending.tell_reply.Goals as goal

pub returns-in-Wire : goal.returns-in-Wire
returns-in-Wire g c = rw c.in-Wire.is (rw c.wire_cause_number.ensures at c.tell_numbers.ensures)

pub returns-in-TooLong : goal.returns-in-TooLong
returns-in-TooLong g c = rw c.in-TooLong.is c.tell_number.ensures
