-- The ends so far were taken back, with those that are left they are all, and there is room for these.
use Rattle.std.proofs.Common.{◌≡◌, ◌+◌, ◌≤◌, ◌++◌, map, length, vec_len}
use Rattle.std.specs.Vec.{vec_capacity}
use Rattle.sv_threads.specs.Opening.{server_end}
use Rattle.sv_threads.proofs.gathering.RunRemains.take_services.Given as goal

abbrev pub invariant-loop-service : goal.invariant-loop-service
invariant-loop-service g l = record {
  ends : l.self.servers.items ++ map server_end l.service-iterator.rest.items ≡ l.initial.self.servers.items ++ map server_end l.fn.services.items;
  room : vec_len l.self.servers + length l.service-iterator.rest.items ≤ vec_capacity l.self.servers;
  same : l.self.clients ≡ l.initial.self.clients;
}
