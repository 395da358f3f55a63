-- The ends of the tasks so far were taken back, with those that are left they are all, and there is room for these.
use Rattle.std.proofs.Common.{◌≡◌, ◌+◌, ◌≤◌, ◌++◌, map, length, vec_len}
use Rattle.std.specs.List.{flat_map}
use Rattle.std.specs.Vec.{vec_capacity}
use Rattle.sv_threads.specs.Given.{ends_given}
use Rattle.sv_threads.specs.Opening.{server_end, uncut}
use Rattle.sv_threads.specs.Tasks.{services_of, parts_of}
use Rattle.sv_threads.proofs.gathering.take_back.Given as goal

abbrev pub invariant-loop-task : goal.invariant-loop-task
invariant-loop-task g l =
    let rest = l.task-iterator.rest.items in
    record {
      servers : l.left.servers.items ++ map server_end (services_of rest) ≡ l.initial.left.servers.items ++ map server_end (services_of l.fn.tasks.items);
      clients : l.left.clients.items ++ map uncut (flat_map ends_given (parts_of rest)) ≡ l.initial.left.clients.items ++ map uncut (flat_map ends_given (parts_of l.fn.tasks.items));
      server_room : vec_len l.left.servers + length (services_of rest) ≤ vec_capacity l.left.servers;
      client_room : vec_len l.left.clients + length (flat_map ends_given (parts_of rest)) ≤ vec_capacity l.left.clients;
    }
