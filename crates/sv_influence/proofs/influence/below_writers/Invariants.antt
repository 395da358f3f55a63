-- The loop invariant of `below_writers`.
use Rattle.std.proofs.Common.{◌≡◌, ℕ, ◌≤◌, true, false, drop}
use Rattle.sv_world.specs.Control.{is_in, action_at}
use Rattle.sv_world.specs.Sets.{read_set, write_set}
use Rattle.sv_queue.specs.Queue.{queue_actions}
use Rattle.sv_influence.proofs.influence.below_writers.Given as goal

abbrev pub invariant-loop-object : goal.invariant-loop-object
invariant-loop-object g l = record {
  items : l.object-items ≡ l.action.reads;
  uncommitted : l.queue.commit ≤ l.below;
  bound : l.below ≤ l.bound;
  rest : (x p : ℕ) → is_in x (read_set l.action) ≡ true → is_in x (drop l.object-index (read_set l.action)) ≡ false → p ≤ l.below → is_in x (write_set (action_at (queue_actions l.queue) p)) ≡ false;
}
