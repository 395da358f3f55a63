-- The ends so far were taken back, with those that are left they are all, and there is room for these.
use Rattle.std.proofs.Common.{◌≡◌, ◌+◌, ◌≤◌, ◌++◌, map, length, vec_len}
use Rattle.std.specs.Vec.{vec_capacity}
use Rattle.sv_threads.specs.Opening.{uncut}
use Rattle.sv_threads.proofs.gathering.RunRemains.take_unplayed.Given as goal

abbrev pub invariant-loop-end : goal.invariant-loop-end
invariant-loop-end g l = record {
  ends : l.self.clients.items ++ map uncut l.end-iterator.rest.items ≡ l.initial.self.clients.items ++ map uncut l.fn.ends.items;
  room : vec_len l.self.clients + length l.end-iterator.rest.items ≤ vec_capacity l.self.clients;
  size : vec_len l.self.clients + length l.end-iterator.rest.items ≡ vec_len l.initial.self.clients + length l.fn.ends.items;
  capacity : vec_capacity l.self.clients ≡ vec_capacity l.initial.self.clients;
  same : l.self.servers ≡ l.initial.self.servers;
}
