-- The loop invariant of `enter_all`, and what gets smaller.
use Rattle.std.proofs.Common.{◌≡◌, ◌+◌, ◌≤◌, length, vec_len, vec_capacity}
use Rattle.std.specs.Vec.Iter.{into_iter_items}
use Rattle.sv_witness.specs.Disputes.{with_disputes}
use Rattle.sv_witness.proofs.disputes.enter_all.Given as goal

abbrev pub invariant-loop-dispute : goal.invariant-loop-dispute
invariant-loop-dispute l = record {
  entered : with_disputes (into_iter_items l.left) l.disputes.items ≡ with_disputes l.fn.new.items l.initial.disputes.items;
  room : vec_len l.disputes + length (into_iter_items l.left) ≤ vec_capacity l.disputes;
}

abbrev pub decreases-loop-dispute : goal.decreases-loop-dispute
decreases-loop-dispute l = length (into_iter_items l.left)
