-- The loop invariant of `tell_blocks`.
use Rattle.sv_queue.specs.Blocks.{AreMarked}
use Rattle.sv_queue.specs.Written.{writes_before}
use Rattle.sv_queue.proofs.written.tell_blocks.Given as goal

abbrev pub invariant-loop-slot : goal.invariant-loop-slot
invariant-loop-slot l = AreMarked (writes_before l.action l.slot) l.slots.slots l.initial.blocks.items l.blocks.items
