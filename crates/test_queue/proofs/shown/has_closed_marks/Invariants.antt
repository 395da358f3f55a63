-- The loop invariant of `has_closed_marks`.
use Rattle.std.proofs.Common.{◌≡◌, ℕ, true, ◌<◌, ◌≤◌}
use Rattle.sv_world.specs.Control.{is_in, action_at, last_writer}
use Rattle.sv_world.specs.Sets.{read_set}
use Rattle.sv_queue.specs.Queue.{queue_actions, sent_positions}
use Rattle.test_queue.proofs.shown.has_closed_marks.Given as goal

abbrev pub invariant-loop-before : goal.invariant-loop-before
invariant-loop-before g l = (p x : ℕ) → l.queue.commit < p → p ≤ l.before → is_in p (sent_positions l.queue l.session) ≡ true →
    is_in x (read_set (action_at (queue_actions l.queue) p)) ≡ true → l.queue.commit < last_writer (queue_actions l.queue) x p →
    is_in (last_writer (queue_actions l.queue) x p) (sent_positions l.queue l.session) ≡ true
