-- The ends so far were taken in, with those that are left they are all, and there is room for these.
use Rattle.std.proofs.Common.{◌≡◌, ◌+◌, ◌≤◌, ◌++◌, length, vec_len}
use Rattle.std.specs.Vec.{vec_capacity}
use Rattle.sv_threads.specs.RunRemains.{ends_from}
use Rattle.sv_threads.proofs.gathering.RunRemains.take_ends.Given as goal

abbrev pub invariant-loop-end : goal.invariant-loop-end
invariant-loop-end g l = record {
  ends : l.self.clients.items ++ ends_from l.trace l.session l.end-iterator.rest.items ≡ l.initial.self.clients.items ++ ends_from l.trace l.trace.first l.fn.ends.items;
  numbers : l.session + length l.end-iterator.rest.items ≤ 64;
  room : vec_len l.self.clients + length l.end-iterator.rest.items ≤ vec_capacity l.self.clients;
  size : vec_len l.self.clients + length l.end-iterator.rest.items ≡ vec_len l.initial.self.clients + length l.fn.ends.items;
  capacity : vec_capacity l.self.clients ≡ vec_capacity l.initial.self.clients;
  servers : l.self.servers ≡ l.initial.self.servers;
  traces : l.self.traces ≡ l.initial.self.traces;
  lines : l.self.lines ≡ l.initial.self.lines;
  lacked : l.self.lacked ≡ l.initial.self.lacked;
}
