-- The loop invariant of `add_all`, and what gets smaller.
use Rattle.std.proofs.Common.{◌≡◌, ℕ, length}
use Rattle.std.specs.List.{AllByRecursion}
use Rattle.std.specs.Vec.Iter.{into_iter_items}
use Rattle.sv_wire.specs.declared.message.Done1.{Done1}
use Rattle.sv_journal.specs.History.{reported}
use Rattle.sv_witness.specs.Kept.{kept_at, HasRoomFor, AreOnce, with_values}
use Rattle.sv_witness.proofs.reports.add_all.Given as goal

abbrev pub invariant-loop-found : goal.invariant-loop-found
invariant-loop-found l = record {
  kept : (p : ℕ) → with_values l.client (reported p (into_iter_items l.left)) (kept_at l.reports p) ≡ with_values l.client (reported p l.fn.results.items) (kept_at l.initial.reports p);
  once : AreOnce (into_iter_items l.left);
  room : AllByRecursion (λ (d : Done1). HasRoomFor l.reports d.pos) (into_iter_items l.left);
}

abbrev pub decreases-loop-found : goal.decreases-loop-found
decreases-loop-found l = length (into_iter_items l.left)
