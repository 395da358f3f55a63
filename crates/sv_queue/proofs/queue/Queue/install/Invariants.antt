-- The loop invariant of `Queue::install`, and what gets smaller.
use Rattle.std.proofs.Common.{◌≡◌, ◌≤◌, length}
use Rattle.sv_queue.specs.Queue.{ready_installed}
use Rattle.sv_queue.proofs.queue.Queue.install.Given as goal

abbrev pub invariant-loop-self : goal.invariant-loop-self
invariant-loop-self l = record {
  all : ready_installed l.self ≡ ready_installed l.initial.self;
  grows : l.initial.self.commit ≤ l.self.commit;
}

abbrev pub decreases-loop-self : goal.decreases-loop-self
decreases-loop-self l = length l.self.entries
