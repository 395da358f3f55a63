-- The tasks so far are those of the first sessions and clients.
use Rattle.std.proofs.Common.{◌≡◌, ◌+◌, ◌≤◌, ◌++◌, [], length, vec_len}
use Rattle.std.specs.Vec.{vec_capacity}
use Rattle.sv_threads.specs.Tasks.{services_of, parts_of}
use Rattle.sv_threads.proofs.opening.make_tasks.Given as goal

abbrev pub invariant-loop-service : goal.invariant-loop-service
invariant-loop-service g l = record {
  services : services_of l.tasks.items ++ l.service-iterator.rest.items ≡ l.fn.services.items;
  parts : parts_of l.tasks.items ≡ [];
  room : (vec_len l.tasks + length l.service-iterator.rest.items) + length l.fn.parts.items ≤ vec_capacity l.tasks;
}

abbrev pub invariant-loop-part : goal.invariant-loop-part
invariant-loop-part g l = record {
  services : services_of l.tasks.items ≡ l.fn.services.items;
  parts : parts_of l.tasks.items ++ l.part-iterator.rest.items ≡ l.fn.parts.items;
  room : vec_len l.tasks + length l.part-iterator.rest.items ≤ vec_capacity l.tasks;
}
