-- The loop invariant of `results_in`.
use Rattle.std.proofs.Common.{◌≡◌, List, length, drop, Option}
use Rattle.std.specs.Prelude.{ℤ}
use Rattle.sv_pending.specs.Pending.{redone_after, redone}
use Rattle.sv_pending.specs.Made.{paired, AreWhole}
use Rattle.sv_pending.proofs.redo.results_in.Given as goal

abbrev pub invariant-loop-next : goal.invariant-loop-next
invariant-loop-next l =
    (length l.done.items ≡ l.next-index) × AreWhole l.made l.done.items
    × ((ks : List (Option (List (List ℤ)))) → length ks ≡ length l.made →
    redone_after l.versions.held (paired l.made l.done.items) (drop (length l.done.items) (paired l.made ks)) ≡ redone l.versions.held (paired l.made ks))
