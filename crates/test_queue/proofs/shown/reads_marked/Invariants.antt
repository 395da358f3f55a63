-- The loop invariant of `reads_marked`.
use Rattle.std.proofs.Common.{◌≡◌, ℕ, true, ◌<◌, length, get_or}
use Rattle.sv_world.specs.Control.{is_in, action_at, last_writer}
use Rattle.sv_world.specs.Sets.{read_set}
use Rattle.sv_queue.specs.Queue.{queue_actions, sent_positions}
use Rattle.test_queue.proofs.shown.reads_marked.Given as goal

abbrev pub invariant-loop-slot : goal.invariant-loop-slot
invariant-loop-slot g l = record {
  end : l.slot-end ≡ length (read_set (action_at (queue_actions l.queue) l.pos));
  marked : (k : ℕ) → k < l.slot → l.queue.commit < last_writer (queue_actions l.queue) (get_or (read_set (action_at (queue_actions l.queue) l.pos)) k 0) l.pos →
      is_in (last_writer (queue_actions l.queue) (get_or (read_set (action_at (queue_actions l.queue) l.pos)) k 0) l.pos) (sent_positions l.queue l.session) ≡ true;
}
