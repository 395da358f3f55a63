-- The loop invariant of `give_written`.
use Rattle.sv_queue.specs.Slots.{SlotSet, no_slots}
use Rattle.sv_queue.specs.Written.{IsChangedAt, writes_before}
use Rattle.sv_queue.proofs.written.give_written.Given as goal

abbrev pub invariant-loop-slot : goal.invariant-loop-slot
invariant-loop-slot l =
    IsChangedAt no_slots (λ (r : SlotSet). record r { slots = l.slots.slots }) (writes_before l.action l.slot) l.initial.rows.items l.rows.items
