-- The loop invariant of `Queue::sources_at`.
use Rattle.std.proofs.Common.{◌≡◌, ℕ, ◌<◌, length, get_or}
use Rattle.sv_world.specs.Control.{last_writer}
use Rattle.sv_world.specs.Sets.{read_set}
use Rattle.sv_queue.specs.Queue.{queue_actions}
use Rattle.sv_queue.proofs.queue.Queue.sources_at.Given as goal

abbrev pub invariant-loop-slot : goal.invariant-loop-slot
invariant-loop-slot l = record {
  count : length l.sources ≡ 16;
  found : (k : ℕ) → k < l.slot → get_or l.sources k 0 ≡ last_writer (queue_actions l.self) (get_or (read_set l.action) k 0) l.pos;
}
