-- The loop invariant of `by_sources`, and what gets smaller.
use Rattle.std.proofs.Common.{◌≡◌, ◌+◌, length, map, max}
use Rattle.sv_world.specs.Control.{action_at, chain_length, influence_distance, distance}
use Rattle.sv_world.specs.Trees.{greatest}
use Rattle.sv_queue.specs.Queue.{queue_actions}
use Rattle.sv_influence.proofs.Chains.{left, AreWithin}
use Rattle.sv_influence.proofs.influence.by_sources.Given as goal

abbrev pub invariant-loop-pos : goal.invariant-loop-pos
invariant-loop-pos g l = record {
  within : AreWithin l.queue.commit (length (queue_actions l.queue)) l.wanted;
  count : l.count + length (left (queue_actions l.queue) l.queue.commit l.action l.wanted) ≡ chain_length (queue_actions l.queue) l.queue.commit l.action;
  far : max l.far (greatest (map (λ j. distance l.action.origin (action_at (queue_actions l.queue) j).origin) (left (queue_actions l.queue) l.queue.commit l.action l.wanted))) ≡ influence_distance (queue_actions l.queue) l.queue.commit l.action;
}

abbrev pub decreases-loop-pos : goal.decreases-loop-pos
decreases-loop-pos g l = length (left (queue_actions l.queue) l.queue.commit l.action l.wanted)
