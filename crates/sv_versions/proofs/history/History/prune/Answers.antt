-- What is proved by hand of `History::prune`.
use Rattle.std.proofs.Common.{◌≡◌, leb, ap, arith, rules}
use Rattle.std.specs.List.{filter}
use Rattle.std.proofs.lemmas.Fn.{filter_same}
use Rattle.sv_versions.specs.declared.history.Version.{Version}
use Rattle.sv_versions.proofs.Prunes.{prune_some, prune_few, filter_ascends, few_left}
use Rattle.sv_versions.proofs.Rows.{counted}
use Rattle.sv_versions.proofs.history.History.prune.Goals as goal

pub invariant_of-self : goal.invariant_of-self
invariant_of-self c =
    let kept : c.retain.new.self.items ≡ filter (λ (v : Version). leb c.index.result.now.pos v.pos) c.self.inside.versions.items =
    filter_same _ _ _ (λ x b f' k. search rules) _ _ c.retain.ensures.filtered in
    rw kept (filter_ascends (λ v. leb c.index.result.now.pos v.pos) 0 _ c.self.invariant)

pub returns-then-count-gt1-clause-kept : goal.returns-then-count-gt1-clause-kept
returns-then-count-gt1-clause-kept c = λ x.
    let kept : c.retain.new.self.items ≡ filter (λ (v : Version). leb c.index.result.now.pos v.pos) c.self.inside.versions.items =
    filter_same _ _ _ (λ x b f' k. search rules) _ _ c.retain.ensures.filtered in
    let count = rw c.deref.ensures.value at c.count_versions-count.ensures in
    rw (kept, ← c.self.view_is) (prune_some _ _ x _ _ c.index.result.now c.self.invariant count (omega arith) (ap (λ (v : Version). v.pos) c.index.ensures))

pub returns-then-count-gt1-clause-few : goal.returns-then-count-gt1-clause-few
returns-then-count-gt1-clause-few c = λ x.
    let kept : c.retain.new.self.items ≡ filter (λ (v : Version). leb c.index.result.now.pos v.pos) c.self.inside.versions.items =
    filter_same _ _ _ (λ x b f' k. search rules) _ _ c.retain.ensures.filtered in
    let count = rw c.deref.ensures.value at c.count_versions-count.ensures in
    rw kept (few_left _ _ x _ _ c.index.result.now c.self.invariant count (omega arith) (ap (λ (v : Version). v.pos) c.index.ensures))

pub returns-else-count-gt1-clause-few : goal.returns-else-count-gt1-clause-few
returns-else-count-gt1-clause-few c = λ x.
    let count = rw c.deref.ensures.value at c.count_versions-count.ensures in
    rw (← c.self.view_is, ← counted x _ _ _ count) (omega arith)

pub returns-else-count-gt1-clause-kept : goal.returns-else-count-gt1-clause-kept
returns-else-count-gt1-clause-kept c = λ x.
    let count = rw c.deref.ensures.value at c.count_versions-count.ensures in
    rw (← c.self.view_is) (prune_few _ _ x _ c.self.invariant count (omega arith))
