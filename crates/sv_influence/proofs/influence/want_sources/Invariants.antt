-- The loop invariant of `want_sources`.
use Rattle.std.proofs.Common.{◌≡◌, ℕ, ◌++◌, drop}
use Rattle.sv_world.specs.Control.{is_in}
use Rattle.sv_world.specs.Sets.{read_set}
use Rattle.sv_queue.specs.Queue.{queue_actions}
use Rattle.sv_influence.specs.Writers.{writers_of}
use Rattle.sv_influence.proofs.influence.want_sources.Given as goal

abbrev pub invariant-loop-slot : goal.invariant-loop-slot
invariant-loop-slot g l =
    (j : ℕ) → is_in j (writers_of (queue_actions l.queue) l.pos (drop l.slot (read_set l.action)) ++ l.wanted) ≡ is_in j (writers_of (queue_actions l.queue) l.pos (read_set l.action) ++ l.fn.wanted)
