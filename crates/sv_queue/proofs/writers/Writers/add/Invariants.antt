-- The loop invariant of `Writers::add`.
use Rattle.std.proofs.Common.{[], ◌∷◌, ◌++◌}
use Rattle.sv_queue.specs.Written.{IsChangedAt, writes_before}
use Rattle.sv_queue.proofs.writers.Writers.add.Given as goal

abbrev pub invariant-loop-slot : goal.invariant-loop-slot
invariant-loop-slot l = IsChangedAt [] (λ list. list ++ l.pos ∷ []) (writes_before l.action l.slot) l.fn.self l.self-inside.lists.items
