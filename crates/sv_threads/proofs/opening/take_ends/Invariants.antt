-- The ends so far, and those that are left, are all.
use Rattle.std.proofs.Common.{◌≡◌, ◌++◌, length}
use Rattle.std.specs.Vec.{vec_capacity}
use Rattle.std.specs.Vec.Iter.{into_iter_items}
use Rattle.sv_threads.proofs.opening.take_ends.Given as goal

abbrev pub invariant-loop : goal.invariant-loop
invariant-loop g l = record {
  count : length l.into.items ≡ l.counter;
  ends : into_iter_items l.initial.left ≡ l.into.items ++ into_iter_items l.left;
  room : vec_capacity l.into ≡ vec_capacity l.initial.into;
}
