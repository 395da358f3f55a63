-- The loop invariant of `join_each`.
use Rattle.std.proofs.Common.{◌≡◌, ◌+◌, ◌≤◌, ◌++◌, vec_len, map, length}
use Rattle.std.specs.Vec.{vec_capacity}
use Rattle.std.specs.List.{AllZip}
use Rattle.sv_link.specs.Promises.{promised}
use Rattle.sv_link.proofs.starting.join_each.Given as goal

abbrev pub invariant-loop-handle : goal.invariant-loop-handle
invariant-loop-handle g l = record {
  all : l.yielded ++ l.handle-iterator.rest.items ≡ l.fn.handles.items;
  kept : AllZip g.J.Job.keeps (map promised l.yielded) l.outs.items;
  room : vec_len l.outs + length l.handle-iterator.rest.items ≤ vec_capacity l.outs;
}
