-- The loop invariant of `Writers::new`.
use Rattle.std.proofs.Common.{◌≡◌, [], replicate}
use Rattle.sv_queue.proofs.writers.Writers.new.Given as goal

abbrev pub invariant-loop : goal.invariant-loop
invariant-loop l = l.lists.items ≡ replicate l.counter []
