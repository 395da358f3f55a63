-- What the check leaves to prove of `Positions::last_below`.
use Rattle.std.proofs.Common.{ℕ, ◌-◌, ltb, List, sym, ap, ◌∙◌, arith, rules}
use Rattle.std.proofs.lemmas.Bool.{ne_eqb, eq-eqb, cond-true, cond-false}
use Rattle.std.proofs.lemmas.List.{get_or_read}
use Rattle.std.proofs.lemmas.List.Sorted.{IsPartitionPoint-from_clause, IsPartitionedBy-ltb}
use Rattle.sv_queue.specs.Positions.{greatest_below, IsAscending}
use Rattle.sv_queue.proofs.PositionLists.{ascending_order, greatest_below-last, greatest_below-search}
use Rattle.sv_queue.proofs.writers.Positions.last_below.Goals as goal

pub returns-then-last-below : goal.returns-then-last-below
returns-then-last-below c =
    let xs = c.self.inside.items.items in
    let n = c.args.below in
    let P : List ℕ → Type 0 = IsAscending in
    let s : IsAscending xs = rw c.self.view_is c.requires in
    let some' = c.in-Some.ensures.item.3.0 in
    let count = c.self.inside.items.ok.0 in
    greatest_below-last xs n (c.self.inside.items.len - 1) c.in-Some.last.now s (omega (arith, some', count)) c.in-Some.ensures.lookup (omega arith)
    ∙ ap (λ ys. greatest_below ys n) c.self.view_is

pub returns-then-count-eq0 : goal.returns-then-count-eq0
returns-then-count-eq0 c =
    let xs = c.self.inside.items.items in
    let n = c.args.below in
    let P : List ℕ → Type 0 = IsAscending in
    let s : IsAscending xs = rw c.self.view_is c.requires in
    let point = IsPartitionPoint-from_clause (λ y. ltb y n) _ _ c.partition_point-count.ensures.partitioned (IsPartitionedBy-ltb (λ y. y) xs n (ascending_order xs s)) (λ a r q k. search rules) in
    sym (greatest_below-search xs n c.partition_point-count.result s (omega arith) point ∙ cond-true _ _ _ (eq-eqb _ 0 c.if-count-eq0.true)) ∙ ap (λ ys. greatest_below ys n) c.self.view_is

pub returns : goal.returns
returns c =
    let xs = c.self.inside.items.items in
    let n = c.args.below in
    let s : IsAscending xs = rw c.self.view_is c.requires in
    let point = IsPartitionPoint-from_clause (λ y. ltb y n) _ _ c.partition_point-count.ensures.partitioned (IsPartitionedBy-ltb (λ y. y) xs n (ascending_order xs s)) (λ a r q k. search rules) in
    get_or_read xs _ _ (omega arith) c.index.ensures 0
    ∙ sym (greatest_below-search xs n c.partition_point-count.result s (omega arith) point ∙ cond-false _ _ _ (ne_eqb _ 0 c.if-count-eq0.false)) ∙ ap (λ ys. greatest_below ys n) c.self.view_is
