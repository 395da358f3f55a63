-- The loop invariant of `Writers::remove_first`.
use Rattle.std.proofs.Common.{[], drop}
use Rattle.sv_queue.specs.Written.{IsChangedAt, writes_before}
use Rattle.sv_queue.proofs.writers.Writers.remove_first.Given as goal

abbrev pub invariant-loop-slot : goal.invariant-loop-slot
invariant-loop-slot l = IsChangedAt [] (drop 1) (writes_before l.action l.slot) l.fn.self l.self-inside.lists.items
