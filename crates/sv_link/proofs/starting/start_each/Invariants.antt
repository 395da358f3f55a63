-- The loop invariant of `start_each`.
use Rattle.std.proofs.Common.{◌≡◌, ◌+◌, ◌≤◌, ◌++◌, vec_len, map, length, IfSome}
use Rattle.std.specs.Vec.{vec_capacity}
use Rattle.std.specs.List.{AllByRecursion}
use Rattle.sv_link.specs.Promises.{promised}
use Rattle.sv_link.proofs.starting.start_each.Given as goal

abbrev pub invariant-loop-job : goal.invariant-loop-job
invariant-loop-job g l = record {
  started : map promised l.handles.items ++ l.job-iterator.rest.items ≡ l.fn.jobs.items;
  ready : AllByRecursion g.J.Job.ready l.job-iterator.rest.items;
  few : vec_len l.handles + length l.job-iterator.rest.items ≡ vec_len l.fn.jobs;
  none : IfSome l.refused (λ place. vec_len l.handles ≤ place);
  room : vec_len l.fn.jobs ≤ vec_capacity l.handles;
}
